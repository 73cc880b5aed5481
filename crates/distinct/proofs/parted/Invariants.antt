use mathlib.Core.Logic.{◌⊎◌}
use Prim.Native.Nat.{ℕ}
use lib.Dec.{T}
use Rattle.facts.specs.Facts.{has}
use Rattle.facts.proofs.Walks.{Over}
use Rattle.lent.specs.Lent.{wants_of}
use Rattle.distinct.specs.Rivals.{Pinned}
use Rattle.distinct.proofs.parted.Given as goal

abbrev pub invariant-loop-q : goal.invariant-loop-q
invariant-loop-q l = Over 64 (wants_of l.t l.c) l.q-iterator.left × ((b : ℕ) → T (has l.w b) → T (has l.kills b) ⊎ Pinned l.t l.kills (wants_of l.t l.c) b)
