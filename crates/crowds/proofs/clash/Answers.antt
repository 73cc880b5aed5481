use Rattle.std.proofs.Common.{rules}
use Rattle.facts.specs.Words.{Covers}
use Rattle.lent.specs.Lent.{hits_of}
use Rattle.facts.proofs.Passed.{all_passed}
use Rattle.crowds.proofs.clash.Goals as goal

pub returns : goal.returns
returns c e a h =
    let s = c.args in
    all_passed _ _ (λ a. Covers (hits_of s.t.now a) s.w) (λ i q k. (search rules, search rules)) _ _ _ c.all.ensures.ran e a (rw c.each.ensures h)
