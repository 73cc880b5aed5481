use mathlib.Core.Path.{◌≡◌}
use native.Mathlib.Omega.{arith}
use Rattle.bounds.proofs.Laws.{hopeless_at}
use Rattle.bounds.proofs.hopeless.Goals as goal

pub returns : goal.returns
returns c = let z : c.from.result ≡ c.args.bound = omega (arith, c.from.ensures) in hopeless_at c.put_bound.ensures z c.requires _ c.root-s.ensures c.pruned.ensures
