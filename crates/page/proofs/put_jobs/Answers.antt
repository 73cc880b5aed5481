use borrow.Author.Rules.{rules}
use native.Mathlib.Omega.{arith}
use Rattle.lines.proofs.Fits.{line_fits, jobs_fit}
use Rattle.lines.proofs.Laws.{lays_none, lays_fit, lays_next}
use Rattle.lines.specs.Lines.{starting_at}
use Rattle.page.specs.Page.{plan_line}
use Rattle.tables.specs.Tables.{problem}
use Rattle.rules.specs.Pairs.{joined}
use Rattle.rules.specs.Plans.{starts, finish}
use Prim.Native.Nat.{◌+◌}
use mathlib.Core.Path.{◌≡◌, refl, ◌∙◌}
use Rattle.page.proofs.put_jobs.Goals as goal

pub loop-t-init : goal.loop-t-init
unfolding joined
loop-t-init c = (omega arith, refl, lays_fit (lays_none _ _) (omega arith))

pub loop-t-preserved : goal.loop-t-preserved
loop-t-preserved c = let a = c.args in let P = problem a.l a.q in (omega arith, c.out-1.given ∙ c.loop-t.invariant.1, lays_fit (lays_next (starting_at (plan_line P (starts a.s.now)) (starts a.s.now) a.q.jobs) c.loop-t.t (search rules) c.loop-t.invariant.2 c.put_starts-next.ensures) (jobs_fit (plan_line P (starts a.s.now)) (starts a.s.now) a.q.jobs 18 (c.loop-t.t + 1) (λ j l m. line_fits (starts a.s.now j) (finish P (starts a.s.now) j) j)))

pub shape_of-out : goal.shape_of-out
shape_of-out c = c.loop-t.invariant.1

pub returns : goal.returns
returns c = let e : c.loop-t.t ≡ c.args.bound + 1 = omega arith in rw e at c.loop-t.invariant.2
