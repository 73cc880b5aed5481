use Rattle.turns.proofs.Laws.{lowest_small}
use Rattle.turns.proofs.swap_words.Goals as goal

pub swap_facts-requires : goal.swap_facts-requires
swap_facts-requires c =
    let i = c.loop-x.invariant in
    let x = c.in-Some.ensures.steps in
    let y = c.in_ok-next.ensures.steps in
    (lowest_small i.1 x.0 x.1, lowest_small i.0 y.0 y.1)
