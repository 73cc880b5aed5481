-- What tidying says and leaves.
-- Assumes nothing.
use mathlib.Core.Path.{◌≡◌, ap, ◌∙◌}
use mathlib.Core.List.{List}
use Prim.Native.Nat.{ℕ, ◌≤◌}
use lib.ListN.{length, take}
use Rattle.refusals.specs.Refusals.{Verdict, accepted}
use Rattle.tables.specs.declared.Answer.{Answer}
use Rattle.tables.specs.Tables.{answer_of}
use Rattle.tables.proofs.Laws.{said, left_so, changed_so}
use Rattle.jobfile.specs.declared.Read.{Read}
use Rattle.jobfile.specs.Format.{save_length}
use Rattle.jobfile.specs.Calls.{reading}
use Rattle.jobfile.specs.Tidy.{pulled, tidy_checks, Tidies}
use Rattle.jobfile.proofs.Checks.{reading_says}
use Rattle.jobfile.proofs.Tidy.{tidy_reads}

-- the reader's answer, where the bytes in use are there, is that of the checks
pub read_says : (used : ℕ) (old : List ℕ) {r : Read} → used ≤ 65536 → used ≤ length old → r ≡ reading (take used old) 255 → r.answer ≡ answer_of (tidy_checks used old) 0 0
read_says used old short room e = ap (λ (x : Read). x.answer) e ∙ reading_says (take used old) 255 ∙ said 0 0 (tidy_reads used old short room)

pub tidies_no : (used : ℕ) (old : List ℕ) {r : Answer} {v : Verdict} → r ≡ answer_of v 0 0 → tidy_checks used old ≡ v → (v.number ≡ 0 → ⊥) → Tidies used old old r
tidies_no used old e h n = let p = left_so (save_length (take used old)) (pulled (save_length (take used old)) used old) old e h n in record { says = p.0; bytes = p.1 }

pub tidies_yes : (used : ℕ) (old : List ℕ) {new : List ℕ} {r : Answer} → r ≡ answer_of accepted (save_length (take used old)) 0 → tidy_checks used old ≡ accepted
    → new ≡ pulled (save_length (take used old)) used old → Tidies used old new r
tidies_yes used old e h k = let p = changed_so (save_length (take used old)) (pulled (save_length (take used old)) used old) old e h k in record { says = p.0; bytes = p.1 }
