use Rattle.rules.specs.Supports.{by}
use Rattle.flaws.proofs.Flaws.{pick_map}
use Rattle.flaws.proofs.offer.Goals as goal

pub returns : goal.returns
returns c P p k h = pick_map (λ x. (by c.args.a, x)) absurd (c.support-choice.ensures P p k.left (k.cands.of c.args.a h).1)
