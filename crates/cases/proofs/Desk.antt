-- The numbers of open tables hold: one statement for their whole table.
-- Assumes nothing.
use mathlib.Core.Path.{◌≡◌, refl, ◌∙◌}
use mathlib.Core.List.{List, [], ◌∷◌, ◌++◌}
use Prim.Native.Nat.{ℕ}
use lib.ListN.{length, get_or}
use Rattle.facts.specs.Facts.{has, after}
use Rattle.readings.specs.Opening.{word_of}
use Rattle.facts.specs.Least.{least, further, any}
use Rattle.refusals.specs.Refusals.{refuse_if, refuse_at, refuse_for}
use Rattle.rules.specs.Table.{between, strays, job_strays, undoes, job_checks, table_checks, bound_check}
use Rattle.rules.specs.Clashes.{spoils, clash_of, interfere}
use Rattle.rules.specs.Plans.{in_plan, ends, after_if}
use Rattle.tables.specs.Tables.{unmarked, filled}
use Rattle.opentable.specs.Open.{clash_bit, reclashed, without_job}
use Rattle.opentable.specs.Rows.{after_edits}
use Rattle.opentable.specs.Open.{present, places, bit_rows, empty_of}
use Rattle.opentable.specs.Rows.{Edit, replace, remove}
use Rattle.opentable.proofs.Rows.{empty_right}
use Rattle.opentable.proofs.Orderly.{right_always}
use Rattle.cases.specs.Jobs.{facts, action}
use Rattle.cases.specs.Desk.{KeepsRows, AllKept, add_u, desk_cases}

-- the rows that a table keeps are the rule's, which are computed
keeping_ok : (atoms : ℕ) (es : List Edit) (rows : List ℕ) → (after_edits (empty_of atoms) es).count ≡ length rows → bit_rows (clash_bit (present (after_edits (empty_of atoms) es))) ≡ places 0 (λ i. get_or rows i 0)
    → KeepsRows (after_edits (empty_of atoms) es) rows
keeping_ok atoms es rows n e = record { count = n; kept = right_always es (empty_of atoms) (empty_right atoms) ∙ e }

pub all_kept : AllKept desk_cases
unfolding desk_cases facts unmarked has after least further any refuse_if refuse_at refuse_for between strays job_strays undoes job_checks table_checks bound_check in_plan spoils clash_of interfere ends after_if filled word_of clash_bit reclashed without_job after_edits
all_kept = (
  keeping_ok 5 add_u (0 ∷ 8 ∷ 0 ∷ 2 ∷ []) refl refl,
  (
    keeping_ok 5 (add_u ++ (remove 2 ∷ [])) (0 ∷ 4 ∷ 2 ∷ []) refl refl,
    (
      refl,
      (
        keeping_ok 5 (add_u ++ (replace (record { job = 0; «record» = action [] (0 ∷ []) (1 ∷ []) 1 }) ∷ [])) (14 ∷ 9 ∷ 1 ∷ 3 ∷ []) refl refl,
        (
          refl,
          (
            refl,
            (
              refl,
              tt,
            ),
          ),
        ),
      ),
    ),
  ),
)
