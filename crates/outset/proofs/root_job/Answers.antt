use Rattle.cells.proofs.Changes.{says_as, says_under, says_then}
use Rattle.outset.proofs.First.{in_bound}
use native.Mathlib.Omega.{arith}
use Rattle.outset.proofs.root_job.Goals as goal

pub returns-then-count-j : goal.returns-then-count-j
returns-then-count-j c = says_as c.put_barred.ensures (λ P Q f e k. omega (arith, k.below, e.0.listed.count, c.count.ensures))

pub returns-then-bound-rest : goal.returns-then-bound-rest
returns-then-bound-rest c = says_as c.put_barred-then-bound-rest.ensures (λ P Q f e k. omega (arith, in_bound e k c.wait-rest.ensures c.bound-bound.ensures))

pub returns : goal.returns
returns c =
    let a = c.args in
    let s = c.wait-rest in
    let b = c.bound-bound in
    says_then
    (says_under c.till.ensures.says (λ P Q e k. omega (arith, in_bound e k s.ensures b.ensures)))
    (says_under c.from-2.ensures (λ P Q e k. omega (arith, e.0.listed.early P.bound Q e.1 a.j k, c.from.ensures, c.est.ensures)))
