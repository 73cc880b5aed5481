use mathlib.Core.Bool.{◌&&◌}
use Prim.Native.Nat.{◌+◌}
use lib.Dec.{eqb}
use Rattle.facts.specs.Least.{any}
use Rattle.facts.specs.Words.{Word}
use Rattle.rules.specs.Plans.{finish}
use Rattle.tables.specs.Tables.{problem}
use Rattle.entries.specs.Entries.{entry}
use Rattle.times.specs.Times.{pair_first, pair_second}
use Rattle.reasons.proofs.fitting.Given as goal

abbrev pub invariant-loop-k : goal.invariant-loop-k
invariant-loop-k l = Word (λ a. any (λ i. eqb (pair_first l.pairs i) a && eqb (pair_second l.pairs i) l.j) l.k && eqb (entry l.z l.j) (finish (problem l.l l.q) (entry l.z) a + (problem l.l l.q).gap)) l.w
