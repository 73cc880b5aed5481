use native.Mathlib.Omega.{arith}
use borrow.Author.Tests.{ltb-true, ltb-false}
use Rattle.facts.proofs.Sets.{has_lt, below_pow}
use Rattle.leaves.proofs.no_stray.Goals as goal

pub returns : goal.returns
returns c = (let w = c.args.w in record { yea = λ e j. has_lt 24 w j (ltb-true w 16777216 e); nay = λ e f. omega (arith, ltb-false w 16777216 e, below_pow 24 w f) })
