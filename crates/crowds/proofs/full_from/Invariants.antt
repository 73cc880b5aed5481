use mathlib.Core.Path.{◌≡◌}
use Prim.Native.Nat.{◌≤◌}
use Rattle.states.specs.State.{Search}
use Rattle.cells.specs.View.{Prunes}
use Rattle.crowds.specs.Heaps.{Trusted, Heaped}
use Rattle.crowds.proofs.full_from.Given as goal

abbrev pub invariant-loop-j : goal.invariant-loop-j
invariant-loop-j l = (l.h.sum ≤ 5000000) × (l.h.from ≡ l.from) × Prunes (Trusted l.t l.initial.s l.c) l.initial.s l.s × ((P : Search) → Trusted l.t l.initial.s l.c P → Heaped l.t l.s l.c.jobs l.h P)
