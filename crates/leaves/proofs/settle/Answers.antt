use Rattle.std.proofs.Common.{rules}
use mathlib.Core.Bool.{true≢false}
use mathlib.Core.Bool.{false≢true}
use Rattle.cells.proofs.Changes.{then}
use Rattle.leaves.proofs.Laws.{begun_more}
use Rattle.leaves.proofs.settle.Goals as goal

pub returns-then-not-raise : goal.returns-then-not-raise
returns-then-not-raise c =
    let b = begun_more c.loop-c.invariant c.raise.ensures.prunes in record {
      prunes = then c.begin_all.ensures.prunes b.prunes;
      rest = record { steady = λ e. absurd (false≢true e); begun = λ e. absurd (false≢true e); dead = λ e. c.raise.ensures.dead c.if-not-raise.true };
    }

pub loop-c-preserved : goal.loop-c-preserved
loop-c-preserved c = begun_more c.loop-c.invariant c.raise.ensures.prunes

pub returns : goal.returns
returns c =
    let b = c.loop-c.invariant in record {
      prunes = then c.begin_all.ensures.prunes b.prunes;
      rest = record { steady = λ e. search rules; begun = λ e. b.begun; dead = λ e. absurd (true≢false e) };
    }
