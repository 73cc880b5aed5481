use mathlib.Core.Path.{◌≡◌}
use native.Mathlib.Omega.{arith}
use Rattle.bounds.proofs.Laws.{some_lent, any_at}
use Rattle.bounds.proofs.any_at.Goals as goal

pub find_plan-requires : goal.find_plan-requires
find_plan-requires c = let z : c.from.result ≡ c.args.bound = omega (arith, c.from.ensures) in some_lent c.put_bound.ensures z c.requires

pub returns : goal.returns
returns c = let z : c.from.result ≡ c.args.bound = omega (arith, c.from.ensures) in any_at c.put_bound.ensures z c.requires _ c.root-s.ensures c.find_plan.ensures
