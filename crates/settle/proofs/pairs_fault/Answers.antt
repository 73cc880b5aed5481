use mathlib.Core.Bool.{Bool, not, ◌&&◌}
use mathlib.Core.List.{List}
use Prim.Native.Nat.{ℕ}
use Rattle.facts.specs.Facts.{has}
use Rattle.times.specs.Times.{pair_first, pair_second}
use mathlib.Core.Path.{◌∙◌}
use native.Mathlib.Omega.{arith}
use lib.Dec.{lt→ltb, ltb→lt}
use Rattle.facts.proofs.Bools.{test_yes, test_no}
use Rattle.facts.proofs.Least.{first_some, first_none}
use Rattle.rules.specs.Settling.{settle_checks}
use Rattle.refusals.proofs.Refused.{at_hit, at_miss, if_hit, if_pass}
use Rattle.tables.proofs.Laws.{said}
use Rattle.settle.proofs.pairs_fault.Goals as goal

abbrev outside : (set : ℕ) (bytes : List ℕ) → ℕ → Bool
outside set bytes k = not (has set (pair_first bytes k) && has set (pair_second bytes k))

pub returns-then-word_strays : goal.returns-then-word_strays
unfolding settle_checks
returns-then-word_strays c = λ l. c.refuse.ensures ∙ said 0 0 (if_hit _ 15 601 _ (test_yes c.word_strays.ensures c.if-word_strays.true))

pub returns-then-n-gt600 : goal.returns-then-n-gt600
unfolding settle_checks
returns-then-n-gt600 c = λ l. c.refuse-then-n-gt600.ensures ∙ said 0 0 (if_pass _ 15 601 _ (test_no c.word_strays.ensures c.if-word_strays.false) ∙ if_hit _ 15 600 _ (lt→ltb 600 _ c.if-n-gt600.true))

pub returns-in-Some : goal.returns-in-Some
unfolding settle_checks
returns-in-Some c = λ l. c.refuse-in-Some.ensures ∙ said 0 0 (if_pass _ 15 601 _ (test_no c.word_strays.ensures c.if-word_strays.false) ∙ if_pass _ 15 600 _ (λ h. omega (arith, ltb→lt 600 c.args.q.pairs h)) ∙ at_hit _ _ 15 _ (first_some (outside c.args.q.set c.args.pairs.now) c.args.q.pairs c.first_outside.ensures c.in-Some.is).0 (first_some (outside c.args.q.set c.args.pairs.now) c.args.q.pairs c.first_outside.ensures c.in-Some.is).1)

pub returns : goal.returns
unfolding settle_checks
returns c = λ l. c.done.ensures ∙ said 0 0 (if_pass _ 15 601 _ (test_no c.word_strays.ensures c.if-word_strays.false) ∙ if_pass _ 15 600 _ (λ h. omega (arith, ltb→lt 600 c.args.q.pairs h)) ∙ at_miss _ _ 15 _ (first_none _ _ c.first_outside.ensures c.in_default.is) (omega arith))

pub overflow_cast-k : goal.overflow_cast-k
overflow_cast-k c = record { fits = omega (arith, c.if-n-gt600.false, (first_some (outside c.args.q.set c.args.pairs.now) c.args.q.pairs c.first_outside.ensures c.in-Some.is).1) }
