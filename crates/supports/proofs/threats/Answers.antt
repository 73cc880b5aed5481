use Rattle.std.proofs.Common.{rules}
use Rattle.supports.proofs.Laws.{threats_all}
use Rattle.supports.proofs.threats.Goals as goal

pub returns : goal.returns
returns c P p k = let a = c.args in threats_all a.s.now a.b k (rw c.insides.ensures at c.sifted.ensures) (λ d l y h. search rules)
