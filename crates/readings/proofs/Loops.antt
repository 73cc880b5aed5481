-- One mark more: what a turn of each loop adds. Assumes nothing.
use mathlib.Core.Path.{sym, ◌∙◌}
use mathlib.Core.Bool.{Bool, not, ◌&&◌, ◌||◌, or_assoc, or-false, and-true}
use Prim.Native.Nat.{ℕ, ◌+◌}
use Rattle.facts.specs.Facts.{has}
use Rattle.facts.specs.Words.{Word}
use Rattle.facts.specs.Least.{any}
use Rattle.facts.proofs.Least.{any_more}
use Rattle.facts.proofs.Bools.{and_neither}

-- the first turn
pub with_none : (f : ℕ → ℕ → Bool) (w : ℕ) → Word (λ p. has w p || any (f p) 0) w
unfolding any Rattle.facts.specs.Least.least
with_none f w p = sym (or-false (has w p))

pub without_none : (f : ℕ → ℕ → Bool) (w : ℕ) → Word (λ p. has w p && not (any (f p) 0)) w
unfolding any Rattle.facts.specs.Least.least
without_none f w p = sym (and-true (has w p))

-- each further turn
pub with_more : (f : ℕ → ℕ → Bool) (w v u i : ℕ) → Word (λ p. has w p || any (f p) i) v → Word (λ p. has v p || f p i) u → Word (λ p. has w p || any (f p) (i + 1)) u
with_more f w v u i x y p = y p ∙ rw (x p, any_more (f p) i) (or_assoc (has w p) (any (f p) i) (f p i))

pub without_more : (f : ℕ → ℕ → Bool) (w v u i : ℕ) → Word (λ p. has w p && not (any (f p) i)) v → Word (λ p. has v p && not (f p i)) u → Word (λ p. has w p && not (any (f p) (i + 1))) u
without_more f w v u i x y p = y p ∙ rw (x p, any_more (f p) i) (and_neither (has w p) (any (f p) i) (f p i))
