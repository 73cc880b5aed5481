use Rattle.planner.proofs.Laws.{tells_none, sooner_is}
use native.Mathlib.Omega.{arith}
use Rattle.planner.proofs.try_sooner.Goals as goal

pub returns-then-x-lo : goal.returns-then-x-lo
returns-then-x-lo c = tells_none (λ P l Q v n. omega (arith, n.1, v.fits.stays.lo _ n.0))

pub returns : goal.returns
returns c = sooner_is c.put_inside.ensures c.till.ensures (omega arith) c.find_plan.ensures
