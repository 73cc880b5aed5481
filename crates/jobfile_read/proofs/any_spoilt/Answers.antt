use mathlib.Core.Path.{◌≡◌, refl}
use mathlib.Core.Bool.{true, false}
use native.Mathlib.Omega.{arith}
use Rattle.std.proofs.Common.{rules, tests}
use Rattle.std.proofs.lemmas.Iterator.{cases_from_any, YieldsList-from_range}
use Rattle.jobfile.specs.Format.{spoilt}
use Rattle.facts.proofs.Ranges.{any_is}
use Rattle.jobfile_read.proofs.any_spoilt.Goals as goal

pub returns : goal.returns
returns c =
    let f = spoilt c.args.records.now in
    let n = c.args.n in
    any_is f n c.any.result (cases_from_any _ _ _ (λ x. f x ≡ true) (λ x. f x ≡ false) c.any.ensures.ran (YieldsList-from_range 0 n n refl (omega arith)) (λ x q k. search (rules, tests)) (λ x q k. search (rules, tests)))
