use Rattle.turns.proofs.Laws.{leader_of}
use Rattle.turns.proofs.leads.Goals as goal

pub returns-then-moves_to : goal.returns-then-moves_to
returns-then-moves_to c e = leader_of c.args.l c.args.q c.in-Some.g c.requires.1 (c.is_turn.ensures e) (c.moves_to.ensures c.if-moves_to.true)
