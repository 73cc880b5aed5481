use mathlib.Core.Bool.{Bool}
use Prim.Native.Nat.{ℕ, ◌+◌, ◌<◌}
use lib.Dec.{T}
use Rattle.facts.specs.Tests.{Agrees}
use Rattle.plantext.specs.Form.{letter_at}
use Rattle.plantext.proofs.letters_from.Given as goal

abbrev pub invariant-loop-i : goal.invariant-loop-i
invariant-loop-i g l =
    (f : ℕ → Bool) → ((c : ℕ) → c < 256 → Agrees f c (goal.F-post g l.test c)) → (k : ℕ) → k < l.i → T (f (letter_at l.text (l.at + k)))
