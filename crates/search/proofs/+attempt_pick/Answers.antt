use native.Mathlib.Omega.{arith}
use Rattle.states.proofs.Count.{undecided_le}
use Rattle.leaves.proofs.Laws.{refused}
use Rattle.search.proofs.Laws.{ans_pruned, ans_first, ans_second}
use Rattle.search.proofs.+attempt_pick.Goals as goal

pub attempt-pick-requires : goal.attempt-pick-requires
attempt-pick-requires t c =
    (omega (arith, c.taken.ensures.fewer, undecided_le c.pruned-alive.ensures.prunes.more, c.decreases), (c.pruned-alive.ensures.rest, c.requires.1))

pub attempt-returns-then-pick : goal.attempt-returns-then-pick
attempt-returns-then-pick t c = ans_first c.args.r c.taken.ensures (ans_pruned c.pruned-alive.ensures.prunes c.pick.ensures) c.if-pick.true

pub attempt-pick-requires-2 : goal.attempt-pick-requires-2
attempt-pick-requires-2 t c =
    (omega (arith, c.dropped.ensures.fewer, undecided_le c.pruned-left.ensures.prunes.more, c.decreases), (c.pruned-left.ensures.rest, c.requires.1))

pub attempt-returns : goal.attempt-returns
attempt-returns t c =
    ans_second c.args.r c.taken.ensures (ans_pruned c.pruned-alive.ensures.prunes c.pick.ensures) c.if-pick.false c.dropped.ensures (ans_pruned c.pruned-left.ensures.prunes c.pick-2.ensures)

pub pick-returns-in-Lost : goal.pick-returns-in-Lost
pick-returns-in-Lost t c = refused (λ P l. (c.flaw.ensures P l).lost c.in-Lost.is)
