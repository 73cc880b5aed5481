use Rattle.facts.proofs.Walks.{Over}
use Rattle.prune.specs.Prune.{Begun}
use Rattle.cells.specs.View.{Prunes}
use Rattle.prune.proofs.follow_all.Given as goal

abbrev pub invariant-loop-d : goal.invariant-loop-d
invariant-loop-d l = Over 64 l.kills l.d-iterator.left × Prunes (Begun l.initial.s l.b l.kills) l.initial.s l.s
