use mathlib.Core.Bool.{◌&&◌}
use mathlib.Core.Path.{◌≡◌}
use Prim.Native.Nat.{ℕ, ◌<◌}
use lib.ListN.{length, get_or}
use Rattle.facts.specs.Facts.{has}
use Rattle.facts.specs.Words.{Word}
use Rattle.rules.specs.Pairs.{is_job}
use Rattle.rules.specs.Plans.{starts}
use Rattle.rules.specs.Supports.{named}
use Rattle.tables.specs.Tables.{problem}
use Rattle.named.proofs.Rows.{Left}
use Rattle.named.specs.Named.{consumer_of}
use Rattle.named.proofs.named_row.Given as goal

abbrev pub invariant-loop-a : goal.invariant-loop-a
invariant-loop-a l = (length l.by ≡ 24) × Left (problem l.l l.q) (starts l.s) (consumer_of l.c) l.want l.a l.left × ((k : ℕ) → k < l.a → Word (λ p. has l.want p && is_job k (named (problem l.l l.q) (starts l.s) p (consumer_of l.c))) (get_or l.by k 0))
