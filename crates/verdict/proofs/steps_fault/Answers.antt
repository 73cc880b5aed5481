use mathlib.Core.Path.{ap, ◌∙◌}
use Prim.Native.Nat.{ℕ}
use native.Mathlib.Omega.{arith}
use Rattle.std.proofs.Common.{rules}
use Rattle.facts.proofs.Least.{first_some, found_passes}
use Rattle.refusals.specs.Refusals.{refused_for}
use Rattle.rules.specs.Plans.{starts}
use Rattle.rules.specs.Verdicts.{late, early, clashes, unready, missing, plan_checks}
use Rattle.tables.specs.Tables.{problem, answer_of}
use Rattle.tables.proofs.Laws.{said}
use Rattle.refusals.proofs.Refused.{at_some, at_none, for_some, for_none}
use Rattle.verdict.proofs.steps_fault.Goals as goal

pub overflow_cast-i : goal.overflow_cast-i
overflow_cast-i c =
    let a = c.args in
    record { fits = omega (arith, c.requires.0, (first_some (late (problem a.l a.q) a.q.bound (starts a.s.now)) a.q.jobs (c.first.ensures (late (problem a.l a.q) a.q.bound (starts a.s.now)) (λ i l b h. search rules)) c.in-Some.is).1) }

pub overflow_cast-i-in-Some-first : goal.overflow_cast-i-in-Some-first
overflow_cast-i-in-Some-first c =
    let a = c.args in
    record { fits = omega (arith, c.requires.0, (first_some (early (problem a.l a.q) (starts a.s.now)) a.q.jobs (c.first-2.ensures (early (problem a.l a.q) (starts a.s.now)) (λ i l b h. search rules)) c.in-Some-first.is).1) }

pub overflow_cast-i-in-Some-first-2 : goal.overflow_cast-i-in-Some-first-2
overflow_cast-i-in-Some-first-2 c =
    let a = c.args in
    record { fits = omega (arith, c.requires.0, (first_some (clashes (problem a.l a.q) (starts a.s.now)) a.q.jobs (c.first-3.ensures (clashes (problem a.l a.q) (starts a.s.now)) (λ i l b h. search rules)) c.in-Some-first-2.is).1) }

pub overflow_cast-i-in-Some-first-3 : goal.overflow_cast-i-in-Some-first-3
overflow_cast-i-in-Some-first-3 c =
    let a = c.args in
    record { fits = omega (arith, c.requires.0, (first_some (unready (problem a.l a.q) (starts a.s.now)) a.q.jobs (c.first-4.ensures (unready (problem a.l a.q) (starts a.s.now)) (λ i l b h. search rules)) c.in-Some-first-3.is).1) }

pub overflow_cast-goal : goal.overflow_cast-goal
overflow_cast-goal c = record { fits = omega (arith, (first_some (missing (problem c.args.l c.args.q) c.args.q.bound (starts c.args.s.now)) 64 c.first_missing.ensures c.in-Some-first_missing.is).1) }

-- the job at which 12 refuses clashes
pub clash_fact-fact-requires : goal.clash_fact-fact-requires
clash_fact-fact-requires c =
    let a = c.args in
    let f = first_some (clashes (problem a.l a.q) (starts a.s.now)) a.q.jobs (c.first-3.ensures (clashes (problem a.l a.q) (starts a.s.now)) (λ i l b h. search rules)) c.in-Some-first-2.is in
    (c.requires, f.1, found_passes (clashes (problem a.l a.q) (starts a.s.now)) f.0 f.1)

pub returns-in-Some : goal.returns-in-Some
unfolding plan_checks
returns-in-Some c =
    let a = c.args in
    c.refuse.ensures
    ∙ said 0 0 (at_some _ _ 11 _ (c.first.ensures (late (problem a.l a.q) a.q.bound (starts a.s.now)) (λ i l b h. search rules)) c.in-Some.is)

pub returns-in-Some-first : goal.returns-in-Some-first
unfolding plan_checks
returns-in-Some-first c =
    let a = c.args in
    c.refuse-in-Some-first.ensures
    ∙ said 0 0 (at_none _ _ 11 _ (c.first.ensures (late (problem a.l a.q) a.q.bound (starts a.s.now)) (λ i l b h. search rules)) c.in_default.is
    ∙ at_some _ _ 21 _ (c.first-2.ensures (early (problem a.l a.q) (starts a.s.now)) (λ i l b h. search rules)) c.in-Some-first.is)

pub returns-in-Some-first-2 : goal.returns-in-Some-first-2
unfolding plan_checks
returns-in-Some-first-2 c =
    let a = c.args in
    c.refuse_for.ensures
    ∙ ap (λ (x : ℕ). answer_of (refused_for 12 x c.in-Some-first-2.i) 0 0) c.clash_fact-fact.ensures
    ∙ said 0 0 (at_none _ _ 11 _ (c.first.ensures (late (problem a.l a.q) a.q.bound (starts a.s.now)) (λ i l b h. search rules)) c.in_default.is
    ∙ at_none _ _ 21 _ (c.first-2.ensures (early (problem a.l a.q) (starts a.s.now)) (λ i l b h. search rules)) c.in_default-first.is
    ∙ for_some _ _ _ 12 _ (c.first-3.ensures (clashes (problem a.l a.q) (starts a.s.now)) (λ i l b h. search rules)) c.in-Some-first-2.is)

pub returns-in-Some-first-3 : goal.returns-in-Some-first-3
unfolding plan_checks
returns-in-Some-first-3 c =
    let a = c.args in
    c.refuse-in-Some-first-3.ensures
    ∙ said 0 0 (at_none _ _ 11 _ (c.first.ensures (late (problem a.l a.q) a.q.bound (starts a.s.now)) (λ i l b h. search rules)) c.in_default.is
    ∙ at_none _ _ 21 _ (c.first-2.ensures (early (problem a.l a.q) (starts a.s.now)) (λ i l b h. search rules)) c.in_default-first.is
    ∙ for_none _ _ _ 12 _ (c.first-3.ensures (clashes (problem a.l a.q) (starts a.s.now)) (λ i l b h. search rules)) c.in_default-first-2.is
    ∙ at_some _ _ 13 _ (c.first-4.ensures (unready (problem a.l a.q) (starts a.s.now)) (λ i l b h. search rules)) c.in-Some-first-3.is)

pub returns-in-Some-first_missing : goal.returns-in-Some-first_missing
unfolding plan_checks
returns-in-Some-first_missing c =
    let a = c.args in
    c.refuse-in-Some-first_missing.ensures
    ∙ said 0 0 (at_none _ _ 11 _ (c.first.ensures (late (problem a.l a.q) a.q.bound (starts a.s.now)) (λ i l b h. search rules)) c.in_default.is
    ∙ at_none _ _ 21 _ (c.first-2.ensures (early (problem a.l a.q) (starts a.s.now)) (λ i l b h. search rules)) c.in_default-first.is
    ∙ for_none _ _ _ 12 _ (c.first-3.ensures (clashes (problem a.l a.q) (starts a.s.now)) (λ i l b h. search rules)) c.in_default-first-2.is
    ∙ at_none _ _ 13 _ (c.first-4.ensures (unready (problem a.l a.q) (starts a.s.now)) (λ i l b h. search rules)) c.in_default-first-3.is
    ∙ at_some _ _ 14 _ c.first_missing.ensures c.in-Some-first_missing.is)

pub returns : goal.returns
unfolding plan_checks
returns c =
    let a = c.args in
    c.done.ensures
    ∙ said 0 0 (at_none _ _ 11 _ (c.first.ensures (late (problem a.l a.q) a.q.bound (starts a.s.now)) (λ i l b h. search rules)) c.in_default.is
    ∙ at_none _ _ 21 _ (c.first-2.ensures (early (problem a.l a.q) (starts a.s.now)) (λ i l b h. search rules)) c.in_default-first.is
    ∙ for_none _ _ _ 12 _ (c.first-3.ensures (clashes (problem a.l a.q) (starts a.s.now)) (λ i l b h. search rules)) c.in_default-first-2.is
    ∙ at_none _ _ 13 _ (c.first-4.ensures (unready (problem a.l a.q) (starts a.s.now)) (λ i l b h. search rules)) c.in_default-first-3.is
    ∙ at_none _ _ 14 _ c.first_missing.ensures c.in_default-first_missing.is)
