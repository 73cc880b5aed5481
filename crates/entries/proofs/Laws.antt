-- Lists that are filled place by place, and choices by a test.
-- Assumes nothing.
use mathlib.Core.Path.{◌≡◌, sym, ap, ◌∙◌}
use mathlib.Core.Bool.{Bool, true, false, cond}
use mathlib.Core.List.{List}
use Prim.Native.Nat.{ℕ, ◌+◌, ◌<◌}
use lib.ListN.{length, set}
use Rattle.facts.proofs.Lists.{set_more}
use Rattle.entries.specs.Entries.{entry}

-- one number more
pub stored : (f : ℕ → ℕ) (l : List ℕ) (i v : ℕ) → i < length l → ((k : ℕ) → k < i → entry l k ≡ f k) → v ≡ f i → (k : ℕ) → k < i + 1 → entry (set l i v) k ≡ f k
stored f l i v room all e = set_more (λ k x. x ≡ f k) l i v 0 room all e

-- what a choice by a test comes to, as code takes it
pub cond_taken : {r b : Bool} {x : ℕ} (y : ℕ) → r ≡ b → r ≡ true → x ≡ cond b x y
cond_taken {x = x} y e h = ap (λ (z : Bool). cond z x y) (sym h ∙ e)

pub cond_left : {r b : Bool} {y : ℕ} (x : ℕ) → r ≡ b → r ≡ false → y ≡ cond b x y
cond_left {y = y} x e h = ap (λ (z : Bool). cond z x y) (sym h ∙ e)
