use mathlib.Core.Path.{◌≡◌, refl, ◌∙◌}
use Rattle.tables.specs.Tables.{job_at}
use Rattle.lines.specs.Lines.{text_if, job_line}
use borrow.Author.Rules.{rules}
use native.Mathlib.Omega.{arith}
use Rattle.lines.proofs.Laws.{lays_none, lays_fit, lays_line}
use Rattle.rules.specs.Pairs.{joined}
use lib.ListN.{get_or}
use lib.Dec.{eqb}
use Prim.Native.Nat.{◌+◌}
use Rattle.page.proofs.put_starts.Goals as goal

pub loop-j-init : goal.loop-j-init
unfolding joined
loop-j-init c = (omega arith, refl, lays_fit (lays_none _ _) (omega arith))

pub loop-j-preserved : goal.loop-j-preserved
loop-j-preserved c = let a = c.args in (omega arith, c.out-1.given ∙ c.loop-j.invariant.1, lays_line (λ i. text_if (eqb (get_or a.s.now i 0) a.t) (job_line (get_or a.s.now i 0) (get_or a.s.now i 0 + (job_at a.l i).duration) i)) 18 c.loop-j.j (search rules) c.loop-j.invariant.2 c.put_start-next.ensures)

pub shape_of-out : goal.shape_of-out
shape_of-out c = c.loop-j.invariant.1

pub returns : goal.returns
returns c = let e : c.loop-j.j ≡ c.args.q.jobs = omega arith in rw e at c.loop-j.invariant.2
