use mathlib.Core.Path.{◌≡◌}
use Rattle.lines.specs.Lines.{pair_line}
use Rattle.lines.specs.Lays.{Lays}
use Rattle.rules.specs.Pairs.{joined}
use lib.ListN.{length, get_or}
use Prim.Native.Nat.{◌+◌, ◌-◌, ◌*◌, ◌≤◌}
use Rattle.page.proofs.put_pairs.Given as goal

abbrev pub invariant-loop-i : goal.invariant-loop-i
invariant-loop-i l = (l.i ≤ l.n) × (length l.out ≡ length l.initial.out) × Lays (19 * l.i) (joined (λ k. pair_line (get_or l.pairs (2 * k) 0) (get_or l.pairs (2 * k + 1) 0)) l.i) l.at l.initial.out l.out l.next

abbrev pub decreases-loop-i : goal.decreases-loop-i
decreases-loop-i l = l.n - l.i
