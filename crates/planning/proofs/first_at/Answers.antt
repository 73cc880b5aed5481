use mathlib.Core.Path.{◌≡◌}
use native.Mathlib.Omega.{arith}
use Rattle.bounds.proofs.Laws.{some_lent}
use Rattle.planning.proofs.Laws.{begins_at, first_at_lem}
use Rattle.planning.proofs.first_at.Goals as goal

pub first-requires : goal.first-requires
first-requires c = let z : c.from.result ≡ c.args.bound = omega (arith, c.from.ensures) in (begins_at c.put_bound.ensures z c.requires.0 _ c.root-s.ensures c.requires.1, some_lent c.put_bound.ensures z c.requires.0)

pub returns : goal.returns
returns c = let z : c.from.result ≡ c.args.bound = omega (arith, c.from.ensures) in first_at_lem c.put_bound.ensures z c.requires.0 c.first.ensures
