use Rattle.states.proofs.Keep.{both_dead}
use Rattle.facts.proofs.Bools.{decides_neb}
use Rattle.facts.proofs.Sets.{meets_and}
use Rattle.cells.specs.View.{view, word_at, ins, outs}
use Rattle.orders.proofs.broken.Goals as goal

pub returns : goal.returns
returns c e P =
    let s = c.args.s.now in
    let y = (decides_neb _ 0 (meets_and (word_at s ins) (word_at s outs))).yea (rw (c.insides.ensures, c.outsides.ensures) at e) in
    both_dead (view s) y.0 y.1 y.2
