use native.Mathlib.Omega.{arith}
use Rattle.facts.proofs.Tests.{passed}
use Rattle.facts.proofs.Sets.{has_lt}
use Rattle.flaws.proofs.Flaws.{pick_fine, pick_map}
use borrow.Author.Rules.{rules}
use Rattle.flaws.proofs.condition.Goals as goal

pub returns-then-p-ge64 : goal.returns-then-p-ge64
returns-then-p-ge64 c P e = rw c.foremost.ensures (pick_fine (λ h. absurd (omega (arith, has_lt 64 c.wants-w.result c.args.p (search rules) (rw c.wants-w.ensures h)))))

pub returns : goal.returns
returns c P e = pick_map (λ x h. x) (λ n. (c.args.p, rw c.wants-w.ensures at (passed c.has.ensures c.if-not-has.false-raw), n)) (c.look.ensures P e)
