use Rattle.std.proofs.Common.{rules}
use Rattle.cells.specs.View.{view}
use Rattle.leaves.specs.Leaf.{StartIs}
use Rattle.facts.proofs.Arrays.{made}
use Rattle.leaves.proofs.starts.Goals as goal

pub returns : goal.returns
returns c =
    let v = view c.args.s.now in
    record { size = c.from_fn.ensures.items.long; each = λ j l. made _ _ _ 24 (λ i x. StartIs (v.inside i) (v.lo i) x) (λ i y q l k. (search rules, search rules)) c.from_fn.ensures.items j 65535 l }
