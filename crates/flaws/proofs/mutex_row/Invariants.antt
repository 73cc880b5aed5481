use Prim.Native.Nat.{◌<◌}
use lib.Bits.{bit_and}
use Rattle.facts.proofs.Walks.{Done, Over}
use Rattle.states.specs.State.{Search, Dead}
use Rattle.cells.specs.View.{view, word_at, ins}
use Rattle.lent.specs.Lent.{Lent, hits_of}
use Rattle.lent.specs.Consumers.{Ordered}
use Rattle.flaws.specs.Flaw.{Picks}
use Rattle.flaws.proofs.mutex_row.Given as goal

abbrev pub invariant-loop-b : goal.invariant-loop-b
invariant-loop-b l = Over 64 (hits_of l.t l.a) l.b-iterator.left × ((P : Search) → Lent l.t P → Picks l.s (Done (λ b. b < 24 → Ordered l.s l.a b) (bit_and (hits_of l.t l.a) (word_at l.s ins)) l.b-iterator.left) (Dead P (view l.s)) l.best.choice)
