use native.Mathlib.Omega.{arith}
use mathlib.Core.Path.{◌≡◌, refl}
use Rattle.tables.specs.Tables.{job_at}
use Rattle.rules.specs.Premises.{most}
use Rattle.planning.proofs.Laws.{most_next}
use Rattle.planning.proofs.last_release.Goals as goal

pub loop-j-init : goal.loop-j-init
unfolding most
loop-j-init c = (omega arith, refl)

pub loop-j-preserved : goal.loop-j-preserved
loop-j-preserved c = (omega arith, omega (arith, c.max-last.ensures, c.loop-j.invariant.1, most_next (λ a. (job_at c.args.l a).release) c.loop-j.j))

pub returns : goal.returns
returns c = let e : c.loop-j.j ≡ c.args.n = omega arith in rw e at c.loop-j.invariant.1
