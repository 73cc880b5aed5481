-- What was read fits the lent records: at most 24 jobs, and a record for each; on refusal no record is changed.
-- Assumes nothing.
use mathlib.Core.Path.{◌≡◌, refl, ap, ◌∙◌}
use mathlib.Core.Bool.{Bool, true, false, cond}
use mathlib.Core.List.{List}
use Prim.Native.Nat.{ℕ, ◌≤◌}
use native.Mathlib.Omega.{arith}
use lib.Dec.{eqb}
use lib.ListN.{length}
use borrow.Author.Tests.{eqb-true}
use Rattle.facts.proofs.Bools.{at_most}
use Rattle.refusals.proofs.Refused.{if_other}
use Rattle.tables.specs.declared.Loaded.{Loaded}
use Rattle.tables.specs.declared.Ask.{Ask}
use Rattle.tables.specs.declared.Answer.{Answer}
use Rattle.tables.specs.Tables.{job_at, filled}
use Rattle.jobfile.specs.Format.{trailer_in, ask_in, records_in, table_in}
use Rattle.jobfile.specs.Calls.{save_checks, read_checks, whole, nothing, reading}
use Rattle.jobfile.proofs.Checks.{reading_says}
use Rattle.tables.proofs.Laws.{accepts}
use Rattle.tables.proofs.Calls.{call_checks_lem, cleared}
use Rattle.tables.specs.declared.Action.{Action}
use Rattle.nuzzlefleece.specs.declared.ReadAnswer.{ReadAnswer}
use Rattle.nuzzlefleece.specs.Files.{Reads}

abbrev Fit : ℕ → ℕ → Type 0
Fit jobs room = (jobs ≤ 24) × (jobs ≤ room)

-- where the reader accepts, the checks of records and jobs were passed
accepted_fits : (file : List ℕ) (room : ℕ) → (read_checks file room).number ≡ 0 → Fit (ask_in (trailer_in file)).jobs room
unfolding read_checks save_checks
accepted_fits file room z =
    let q = ask_in (trailer_in file) in
    let l = table_in (records_in file) q.jobs room in
    let h = (if_other _ 2 0 _ (λ e. omega arith) (if_other _ 2 0 _ (λ e. omega arith) (if_other _ 2 0 _ (λ e. omega arith) (if_other _ 1 0 _ (λ e. omega arith) z).1).1).1).1 in
    ((cleared false q.bound l q (accepts (call_checks_lem false q.bound l q) h)).few, at_most room q.jobs (if_other _ 3 0 _ (λ e. omega arith) h).0)

-- on refusal there are no jobs
either_fits : (b : Bool) (a : Answer) (q : Ask) (l : Loaded) (room : ℕ) → (b ≡ true → Fit q.jobs room) → Fit (cond b (whole a q l) (nothing a)).ask.jobs room
either_fits true a q l room h = h refl
either_fits false a q l room h = (omega arith, omega arith)

pub reading_fits : (file : List ℕ) (room : ℕ) → Fit (reading file room).ask.jobs room
reading_fits file room = either_fits (eqb (read_checks file room).number 0) _ _ _ room (λ e. accepted_fits file room (eqb-true (read_checks file room).number 0 e))

-- ── refusal ──

either_old : (b : Bool) (a : Answer) (q : Ask) (l : Loaded) (old : List Action) → (b ≡ true → ⊥) → filled (job_at (cond b (whole a q l) (nothing a)).table) (cond b (whole a q l) (nothing a)).ask.jobs old ≡ old
unfolding filled
either_old true a q l old ne = absurd (ne refl)
either_old false a q l old ne = refl

pub refused_old : (file : List ℕ) (old new : List Action) (r : ReadAnswer) → Reads file old new r → (r.answer.number ≡ 0 → ⊥) → new ≡ old
refused_old file old new r x ne =
    x.records
    ∙ either_old (eqb (read_checks file (length old)).number 0) _ _ _ old
    (λ e. ne (ap (λ (s : ReadAnswer). s.answer.number) x.says ∙ (ap (λ (a : Answer). a.number) (reading_says file (length old)) ∙ eqb-true (read_checks file (length old)).number 0 e)))
