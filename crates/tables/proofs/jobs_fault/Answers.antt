use mathlib.Core.Path.{◌∙◌}
use mathlib.Core.Bool.{not}
use lib.Dec.{ltb, lt→ltb, ltb→lt}
use native.Mathlib.Omega.{arith}
use Rattle.std.proofs.Common.{rules}
use Rattle.facts.proofs.Bools.{test_yes, test_no}
use Rattle.facts.proofs.Least.{first_some}
use Rattle.rules.specs.Table.{between, job_strays, undoes, job_checks, bound_check}
use Rattle.refusals.proofs.Refused.{at_some, at_none, if_hit, if_pass}
use Rattle.tables.specs.Tables.{problem}
use Rattle.tables.proofs.Laws.{said}
use Rattle.tables.proofs.jobs_fault.Goals as goal

pub overflow_cast-long : goal.overflow_cast-long
overflow_cast-long c = let P = problem c.args.l c.args.q in omega (arith, (first_some _ _ (c.first_job.ensures (λ i. not (between 1 960 (P.duration i))) (λ i l b h. search rules)) c.in-Some.is).1)

pub returns-in-Some : goal.returns-in-Some
unfolding job_checks job_strays undoes
returns-in-Some c =
    let P = problem c.args.l c.args.q in
    c.refuse.ensures ∙ said 0 0 (at_some _ _ 6 _ (c.first_job.ensures (λ i. not (between 1 960 (P.duration i))) (λ i l b h. search rules)) c.in-Some.is)

pub overflow_cast-held : goal.overflow_cast-held
overflow_cast-held c = let P = problem c.args.l c.args.q in omega (arith, (first_some _ _ (c.first_job-2.ensures (λ i. ltb 2880 (P.release i)) (λ i l b h. search rules)) c.in-Some-first_job.is).1)

pub returns-in-Some-first_job : goal.returns-in-Some-first_job
unfolding job_checks job_strays undoes
returns-in-Some-first_job c =
    let P = problem c.args.l c.args.q in
    c.refuse-in-Some-first_job.ensures ∙ said 0 0 (at_none _ _ 6 _ (c.first_job.ensures (λ i. not (between 1 960 (P.duration i))) (λ i l b h. search rules)) c.in_default.is ∙ at_some _ _ 20 _ (c.first_job-2.ensures (λ i. ltb 2880 (P.release i)) (λ i l b h. search rules)) c.in-Some-first_job.is)

pub overflow_cast-stray : goal.overflow_cast-stray
unfolding job_strays
overflow_cast-stray c = let P = problem c.args.l c.args.q in omega (arith, (first_some _ _ (c.first_job-3.ensures (job_strays P) (λ i l b h. search rules)) c.in-Some-first_job-2.is).1)

pub returns-in-Some-first_job-2 : goal.returns-in-Some-first_job-2
unfolding job_checks job_strays undoes
returns-in-Some-first_job-2 c =
    let P = problem c.args.l c.args.q in
    c.refuse-in-Some-first_job-2.ensures ∙ said 0 0 (at_none _ _ 6 _ (c.first_job.ensures (λ i. not (between 1 960 (P.duration i))) (λ i l b h. search rules)) c.in_default.is ∙ at_none _ _ 20 _ (c.first_job-2.ensures (λ i. ltb 2880 (P.release i)) (λ i l b h. search rules)) c.in_default-first_job.is ∙ at_some _ _ 7 _ (c.first_job-3.ensures (job_strays P) (λ i l b h. search rules)) c.in-Some-first_job-2.is)

pub returns-then-edges_stray : goal.returns-then-edges_stray
unfolding job_checks job_strays undoes
returns-then-edges_stray c =
    let P = problem c.args.l c.args.q in
    c.refuse-then-edges_stray.ensures ∙ said 0 0 (at_none _ _ 6 _ (c.first_job.ensures (λ i. not (between 1 960 (P.duration i))) (λ i l b h. search rules)) c.in_default.is ∙ at_none _ _ 20 _ (c.first_job-2.ensures (λ i. ltb 2880 (P.release i)) (λ i l b h. search rules)) c.in_default-first_job.is ∙ at_none _ _ 7 _ (c.first_job-3.ensures (job_strays P) (λ i l b h. search rules)) c.in_default-first_job-2.is ∙ if_hit _ 7 24 _ (test_yes c.edges_stray.ensures c.if-edges_stray.true))

pub overflow_cast-both : goal.overflow_cast-both
unfolding undoes
overflow_cast-both c = let P = problem c.args.l c.args.q in omega (arith, (first_some _ _ (c.first_job-4.ensures (undoes P) (λ i l b h. search rules)) c.in-Some-first_job-3.is).1)

pub returns-in-Some-first_job-3 : goal.returns-in-Some-first_job-3
unfolding job_checks job_strays undoes
returns-in-Some-first_job-3 c =
    let P = problem c.args.l c.args.q in
    c.refuse-in-Some-first_job-3.ensures ∙ said 0 0 (at_none _ _ 6 _ (c.first_job.ensures (λ i. not (between 1 960 (P.duration i))) (λ i l b h. search rules)) c.in_default.is ∙ at_none _ _ 20 _ (c.first_job-2.ensures (λ i. ltb 2880 (P.release i)) (λ i l b h. search rules)) c.in_default-first_job.is ∙ at_none _ _ 7 _ (c.first_job-3.ensures (job_strays P) (λ i l b h. search rules)) c.in_default-first_job-2.is ∙ if_pass _ 7 24 _ (test_no c.edges_stray.ensures c.if-edges_stray.false) ∙ at_some _ _ 8 _ (c.first_job-4.ensures (undoes P) (λ i l b h. search rules)) c.in-Some-first_job-3.is)

pub returns-then-bound-gt2880 : goal.returns-then-bound-gt2880
unfolding job_checks job_strays undoes bound_check
returns-then-bound-gt2880 c =
    let P = problem c.args.l c.args.q in
    c.refuse-then-bound-gt2880.ensures ∙ said 0 0 (at_none _ _ 6 _ (c.first_job.ensures (λ i. not (between 1 960 (P.duration i))) (λ i l b h. search rules)) c.in_default.is ∙ at_none _ _ 20 _ (c.first_job-2.ensures (λ i. ltb 2880 (P.release i)) (λ i l b h. search rules)) c.in_default-first_job.is ∙ at_none _ _ 7 _ (c.first_job-3.ensures (job_strays P) (λ i l b h. search rules)) c.in_default-first_job-2.is ∙ if_pass _ 7 24 _ (test_no c.edges_stray.ensures c.if-edges_stray.false) ∙ at_none _ _ 8 _ (c.first_job-4.ensures (undoes P) (λ i l b h. search rules)) c.in_default-first_job-3.is ∙ if_hit _ 9 0 _ (lt→ltb 2880 _ c.if-bound-gt2880.true))

pub returns : goal.returns
unfolding job_checks job_strays undoes bound_check
returns c =
    let P = problem c.args.l c.args.q in
    c.done.ensures ∙ said 0 0 (at_none _ _ 6 _ (c.first_job.ensures (λ i. not (between 1 960 (P.duration i))) (λ i l b h. search rules)) c.in_default.is ∙ at_none _ _ 20 _ (c.first_job-2.ensures (λ i. ltb 2880 (P.release i)) (λ i l b h. search rules)) c.in_default-first_job.is ∙ at_none _ _ 7 _ (c.first_job-3.ensures (job_strays P) (λ i l b h. search rules)) c.in_default-first_job-2.is ∙ if_pass _ 7 24 _ (test_no c.edges_stray.ensures c.if-edges_stray.false) ∙ at_none _ _ 8 _ (c.first_job-4.ensures (undoes P) (λ i l b h. search rules)) c.in_default-first_job-3.is ∙ if_pass _ 9 0 _ (λ h. omega (arith, ltb→lt 2880 c.args.bound h)))
