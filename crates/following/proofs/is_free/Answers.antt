use lib.Dec.{eqb, T_not}
use Rattle.facts.proofs.Bools.{eqb_of, not_eqb, says_no}
use Rattle.following.proofs.is_free.Goals as goal

pub returns-then-start-eq65535 : goal.returns-then-start-eq65535
returns-then-start-eq65535 c = says_no (λ x. T_not (eqb c.args.start 65535) x.0 (eqb_of c.if-start-eq65535.true))

pub returns : goal.returns
returns c = record {
  yea = λ e. (not_eqb c.args.start 65535 c.if-start-eq65535.false, c.covers.ensures.yea e);
  nay = λ e x. c.covers.ensures.nay e x.1;
}
