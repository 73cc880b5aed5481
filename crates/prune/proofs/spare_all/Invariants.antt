use Rattle.facts.proofs.Walks.{Over}
use Rattle.prune.specs.Prune.{Spared}
use Rattle.cells.specs.View.{Prunes}
use Rattle.prune.proofs.spare_all.Given as goal

abbrev pub invariant-loop-d : goal.invariant-loop-d
invariant-loop-d l = Over 64 l.kills l.d-iterator.left × Prunes (Spared l.initial.s l.b l.a l.kills) l.initial.s l.s
