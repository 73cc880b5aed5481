use mathlib.Core.Path.{refl}
use lib.Dec.{eqb}
use Rattle.batches.proofs.Jobs.{word_none, word_from}
use Rattle.batches.proofs.clearing_job.Goals as goal

pub returns : goal.returns
returns c = record {
  needed = word_from (λ p. eqb p c.args.done) c.with.result c.with.ensures;
  added = word_from (λ p. eqb p 0) c.with-2.result c.with-2.ensures;
  deleted = word_none;
  lasts = refl;
  free = refl;
}
