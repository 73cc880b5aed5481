use mathlib.Core.Path.{◌≡◌}
use Prim.Native.Nat.{ℕ}
use Rattle.facts.specs.Facts.{has}
use Rattle.facts.specs.Least.{any}
use Rattle.rules.specs.Plans.{starts}
use Rattle.rules.specs.Supports.{blocks}
use Rattle.tables.specs.Tables.{problem}
use Rattle.tables.specs.declared.Ask.{Ask}
use Rattle.named.specs.Named.{consumer_of}
use Rattle.named.proofs.blocked.Given as goal

abbrev pub invariant-loop-d : goal.invariant-loop-d
invariant-loop-d l = ((q : Ask) (p : ℕ) → has l.w p ≡ any (blocks (problem l.l q) (starts l.s) p (consumer_of l.c) l.lag l.from) l.d)
