use Rattle.std.proofs.Common.{rules}
use Rattle.supports.proofs.Laws.{cands_all}
use Rattle.supports.proofs.cands.Goals as goal

pub returns : goal.returns
returns c P p k = cands_all c.args.s.now k c.sifted.ensures (λ a l y h. search rules)
