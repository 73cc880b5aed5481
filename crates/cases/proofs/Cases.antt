-- P1 to P11 and the numbers of 02 hold: one statement for the whole table.
-- Assumes nothing.
use mathlib.Core.Path.{refl}
use mathlib.Core.List.{[], ◌∷◌}
use native.Mathlib.Omega.{arith}
use Rattle.facts.specs.Facts.{has, after}
use Rattle.facts.specs.Least.{least, further, any}
use Rattle.refusals.specs.Refusals.{refuse_if, refuse_at, refuse_for}
use Rattle.rules.specs.Table.{between, strays, job_strays, undoes, job_checks, table_checks, bound_check}
use Rattle.rules.specs.Clashes.{spoils, clash_of, interfere}
use Rattle.rules.specs.Plans.{starts, in_plan, ends, after_if, finishes, holds}
use Rattle.rules.specs.Verdicts.{late, early, overlap, clashes, clash_fact, unready, missing, plan_checks}
use Rattle.rules.specs.Supports.{blocks, start_fits, job_fits, name, named}
use Rattle.rules.specs.Pairs.{is_job as supporting, feeds, binds, joined, pair_if, pair_bytes}
use Rattle.rules.specs.Estimates.{plus, cheapest, cost, condition, dearest}
use Rattle.rules.specs.Reasons.{released, pushed, hindrance_of}
use Rattle.rules.specs.Lateness.{overrun_check}
use Rattle.rules.specs.Sums.{sum}
use Rattle.rules.proofs.Late.{greatest_of}
use Rattle.tenths.specs.Tenths.{in_range, tenths}
use Rattle.tenths.specs.Rounding.{float}
use Rattle.tables.specs.Tables.{unmarked}
use Rattle.batches.specs.Groups.{house_groups}
use Rattle.batches.specs.Batches.{batch_checks}
use Rattle.cases.specs.Jobs.{facts}
use Rattle.cases.specs.Claims.{AllHold}
use Rattle.cases.specs.Cases.{out, cases}
use Rattle.cases.proofs.Refute.{some, every, add_if, collect, include, due_if, exclude, ahead, behind, is_job, at_least, chain, broken, wants, guards, step, refute, hopeless}
use Rattle.cases.proofs.Firsts.{sooner, due_before, none_before}
use Rattle.cases.proofs.Batched.{makes_two, makes_none}
use Rattle.lines.specs.Lines.{text_if, decimal}
use Rattle.plantext.specs.Form.{is_digit, is_zero, in_name, same_letters, word_stands, digits_end, point_at, zeros_end, number_end, number_at, value_of, value_at, name_at, name_length, name_end, duration_at, next_line, start_form, duration_form, in_form}
use Rattle.plantext.specs.Names.{name_size, name_of, name_letter, is_named, misnamed, shares_name, names_check, job_named}
use Rattle.plantext.specs.Reading.{line_at, line_job, plan_said, formless, line_checks, text_over, lines_read, text_checks}
use Rattle.plantext.specs.Writing.{step_line, steps_text}
use Rattle.cases.proofs.Shown.{plans_ok, none_ok, least_ok, judged_ok, touch_ok, tenths_ok, all, solves, estimates_ok, stands, keeps, settles, explains_ok, hinders_ok, finishes_ok, says_none, says_one, misses_first, takes_ok, refuses_ok}

-- one case, and all that follow
infixr 20 ◌also◌
◌also◌ : {A B : Type 0} → A → B → A × B
a also b = (a, b)

pub all_hold : AllHold cases
unfolding ◌also◌ cases unmarked blocks start_fits job_fits name named supporting feeds binds joined pair_if pair_bytes facts has after least further any refuse_if refuse_at refuse_for between strays job_strays undoes job_checks table_checks bound_check in_plan spoils clash_of interfere ends after_if finishes holds late early overlap clashes clash_fact unready missing plan_checks in_range tenths float some every add_if collect include due_if exclude ahead behind is_job at_least chain broken wants guards step refute hopeless sooner due_before none_before all solves plus cheapest cost condition dearest stands keeps settles hindrance_of greatest_of overrun_check sum house_groups batch_checks text_if decimal is_digit is_zero in_name same_letters word_stands digits_end point_at zeros_end number_end number_at value_of value_at name_at name_length name_end duration_at next_line start_form duration_form in_form name_size name_of name_letter is_named misnamed shares_name names_check job_named line_at line_job plan_said formless line_checks text_over lines_read text_checks step_line steps_text
all_hold =
    -- P1
    plans_ok refl refl tt
    -- P2
    also none_ok refl tt
    -- P3
    also least_ok refl refl tt tt
    also (judged_ok refl refl, touch_ok (omega arith) (omega arith) tt tt refl)
    -- P4
    also judged_ok refl refl
    -- P5
    also plans_ok refl refl tt
    -- P6
    also none_ok refl tt
    -- P7
    also plans_ok refl refl tt
    also none_ok refl tt
    -- P8
    also none_ok refl tt
    -- P9
    also tenths_ok tt refl
    also tenths_ok tt refl
    -- P10
    also tenths_ok tt refl
    also tenths_ok tt refl
    also tenths_ok tt refl
    -- P11
    also takes_ok refl
    also refuses_ok (omega arith) refl
    also takes_ok refl
    also refuses_ok (omega arith) refl
    -- Two
    also tenths_ok tt refl
    also tenths_ok tt refl
    also tenths_ok tt refl
    -- Five
    also least_ok refl refl tt tt
    also estimates_ok refl tt
    also judged_ok refl refl
    also takes_ok refl
    also refuses_ok (omega arith) refl
    -- Nine
    also least_ok refl refl tt tt
    also none_ok refl tt
    also refl
    also refl
    also estimates_ok refl tt
    also judged_ok refl refl
    also refuses_ok (omega arith) refl
    also refuses_ok (omega arith) refl
    also refuses_ok (omega arith) refl
    also takes_ok refl
    -- Three
    also refl
    also refl
    also refl
    also refl
    also refl
    -- Ten
    also explains_ok refl tt (omega arith) tt (pushed {l = 0 ∷ 3 ∷ []} (omega arith) tt (pushed {l = 0 ∷ []} (omega arith) tt (released refl)))
    also explains_ok refl tt (omega arith) tt (pushed {l = 0 ∷ 3 ∷ []} (omega arith) tt (pushed {l = 0 ∷ []} (omega arith) tt (released refl)))
    also explains_ok refl tt (omega arith) tt (released refl)
    also explains_ok refl tt (omega arith) tt (pushed (omega arith) tt (released refl))
    also hinders_ok (0 ∷ 4 ∷ 4 ∷ 4 ∷ []) refl tt refl
    also hinders_ok (0 ∷ 4 ∷ 4 ∷ 4 ∷ []) refl tt refl
    also hinders_ok [] refl tt refl
    -- Twelve
    also finishes_ok (starts (0 ∷ 7 ∷ 4 ∷ 4 ∷ [])) (starts (0 ∷ 2 ∷ 1 ∷ 1 ∷ [])) refl refl tt tt (omega arith)
    also finishes_ok (starts (0 ∷ 7 ∷ 4 ∷ 4 ∷ [])) (starts (0 ∷ 2 ∷ 1 ∷ 1 ∷ [])) refl refl tt tt (omega arith)
    also finishes_ok (starts (0 ∷ 7 ∷ 4 ∷ 4 ∷ [])) (starts (0 ∷ 2 ∷ 1 ∷ 1 ∷ [])) refl refl tt tt (omega arith)
    also finishes_ok (starts (0 ∷ 9 ∷ 5 ∷ 5 ∷ [])) (starts (0 ∷ 2 ∷ 1 ∷ 1 ∷ [])) refl refl tt tt (omega arith)
    also finishes_ok (starts (0 ∷ 7 ∷ 6 ∷ 4 ∷ [])) (starts (0 ∷ 2 ∷ 1 ∷ 1 ∷ [])) refl refl tt tt (omega arith)
    also finishes_ok (starts (0 ∷ 7 ∷ 4 ∷ 4 ∷ [])) (starts (0 ∷ 2 ∷ 1 ∷ 1 ∷ [])) refl refl tt tt (omega arith)
    also finishes_ok (starts (0 ∷ out ∷ out ∷ out ∷ [])) (starts (0 ∷ out ∷ out ∷ out ∷ [])) refl refl tt tt (omega arith)
    also finishes_ok (starts (out ∷ out ∷ out ∷ out ∷ [])) (starts (out ∷ out ∷ out ∷ out ∷ [])) refl refl tt tt (omega arith)
    also refl
    also refl
    -- Thirteen
    also makes_two
    also makes_none
    also refl
    also refl
    also refl
    also refl
    also refl
    also refl
    -- Eight
    also (refl, refl)
    also says_one (omega arith) refl tt tt
    also says_none tt tt
    also says_one (omega arith) refl tt tt
    also misses_first (omega arith) (λ x. x) refl
    also misses_first (omega arith) (λ x. x) refl
    also misses_first (omega arith) (λ x. x) refl
    also misses_first (omega arith) (λ x. x) refl
    also misses_first (omega arith) (λ x. x) refl
    also misses_first (omega arith) (λ x. x) refl
    also misses_first (omega arith) (λ x. x) refl
    also misses_first (omega arith) (λ x. x) refl
    also misses_first (omega arith) (λ x. x) refl
    also misses_first (omega arith) (λ x. x) refl
    also refl
    also refl
    also refl
    also tt
