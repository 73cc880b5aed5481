use Rattle.facts.proofs.Bools.{says_no}
use Rattle.following.proofs.in_step.Goals as goal

pub returns-then-covers : goal.returns-then-covers
returns-then-covers c = record {
  yea = λ e. (c.covers.ensures.yea c.if-covers.true, c.covers-then-covers.ensures.yea e);
  nay = λ e x. c.covers-then-covers.ensures.nay e x.1;
}

pub returns : goal.returns
returns c = says_no (λ x. c.covers.ensures.nay c.if-covers.false x.0)
