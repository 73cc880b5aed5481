use mathlib.Core.List.{List}
use mathlib.Core.Path.{◌≡◌}
use Prim.Native.Nat.{ℕ, ◌+◌, ◌-◌, ◌≤◌, ◌<◌}
use lib.ListN.{length}
use Rattle.tables.specs.Tables.{filled}
use Rattle.bindings.specs.Steps.{row_byte}
use Rattle.bindings.proofs.fill_row.Given as goal

abbrev pub invariant-loop-p : goal.invariant-loop-p
invariant-loop-p l = (l.p ≤ 64) × (length l.out ≡ length l.initial.out) × ((f : ℕ → ℕ) (xs : List ℕ) → ((k : ℕ) → k < 64 → row_byte l.row l.n k ≡ f (l.base + k)) → l.initial.out ≡ filled f l.base xs → l.out ≡ filled f (l.base + l.p) xs)

abbrev pub decreases-loop-p : goal.decreases-loop-p
decreases-loop-p l = 64 - l.p
