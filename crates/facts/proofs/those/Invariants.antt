use Prim.Native.Nat.{ℕ, ◌<◌}
use mathlib.Core.Bool.{Bool}
use lib.Dec.{T}
use Rattle.facts.specs.Facts.{has}
use Rattle.facts.specs.Tests.{Agrees}
use Rattle.facts.proofs.Passing.{Passing}
use Rattle.facts.proofs.those.Given as goal

abbrev pub invariant-loop-i : goal.invariant-loop-i
invariant-loop-i g l = ((f : ℕ → Bool) → ((i : ℕ) → i < l.n → Agrees f i (goal.F-post g l.test i)) → Passing f l.i l.w) × ((p : ℕ) → T (has l.w p) → p < l.i)
