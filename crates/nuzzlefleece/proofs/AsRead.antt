-- Whoever reads a job file into 255 lent records of zeros, which serve every file, has the table that the file holds.
-- Assumes nothing.
use mathlib.Core.Path.{◌≡◌, sym, ap, ◌∙◌}
use mathlib.Core.Bool.{Bool, cond}
use mathlib.Core.List.{List}
use Prim.Native.Nat.{ℕ, ◌≤◌, ◌<◌, min}
use native.Mathlib.Decide.{dec_lt}
use native.Mathlib.Omega.{arith}
use lib.ListN.{length, replicate, length-replicate, get_or-replicate}
use lib.Seq.{ext_get_or}
use borrow.Author.Tests.{eq-eqb}
use Rattle.refusals.specs.Refusals.{Verdict}
use Rattle.tables.specs.declared.Loaded.{Loaded}
use Rattle.tables.specs.declared.Ask.{Ask}
use Rattle.tables.specs.declared.Answer.{Answer}
use Rattle.tables.specs.Tables.{no_job, record_at, job_at, filled, answer_of}
use Rattle.tables.proofs.Lent.{length_filled, filled_at, filled_rest}
use Rattle.jobfile.specs.declared.Read.{Read}
use Rattle.jobfile.specs.Format.{trailer_in, ask_in, records_in, action_in, table_in}
use Rattle.jobfile.specs.Calls.{read_checks, whole, nothing, reading}
use Rattle.tables.specs.declared.Action.{Action}
use Rattle.records.specs.Records.{loaded}
use Rattle.records.proofs.Lies.{loaded_at}
use Rattle.nuzzlefleece.specs.declared.ReadAnswer.{ReadAnswer}
use Rattle.nuzzlefleece.specs.Files.{Reads}
use Rattle.jobfile.proofs.Checks.{reading_says}
use Rattle.nuzzlefleece.proofs.Fits.{reading_fits}

-- 255 records of zeros
abbrev pub blanks : List Action
blanks = replicate 255 no_job

module _ (file : List ℕ) (new : List Action) (r : ReadAnswer) (x : Reads file blanks new r) (z : r.answer.number ≡ 0) where
  abbrev q : Ask
  q = ask_in (trailer_in file)

  abbrev n : ℕ
  n = q.jobs

  abbrev rs : List ℕ
  rs = records_in file

  abbrev table : Loaded
  table = table_in rs n 255

  abbrev v : Verdict
  v = read_checks file 255

  lent : length blanks ≡ 255
  lent = length-replicate 255 no_job

  -- the reader accepted
  accepts : v.number ≡ 0
  accepts =
      sym (ap (λ (a : Answer). a.number) (reading_says file 255))
      ∙ (sym (ap (λ (m : ℕ). (reading file m).answer.number) lent) ∙ (sym (ap (λ (s : ReadAnswer). s.answer.number) x.says) ∙ z))

  read : reading file 255 ≡ whole (answer_of v 0 0) q table
  read = ap (λ (b : Bool). cond b (whole (answer_of v 0 0) q table) (nothing (answer_of v 0 0))) (eq-eqb v.number 0 accepts)

  few : n ≤ 24
  few = let h : (reading file 255).ask.jobs ≡ n = ap (λ (y : Read). y.ask.jobs) read in omega (arith, h, (reading_fits file 255).0)

  abbrev us : List Action
  us = filled (job_at table) n blanks

  -- record by record
  at : (i : ℕ) → i < 24 → job_at (loaded us) i ≡ job_at table i
  at i l = loaded_at us i l ∙ go (dec_lt i n)
    where
      go : Dec (i < n) → record_at us i ≡ job_at table i
      go (yes h) = filled_at (job_at table) n blanks i no_job h (omega (arith, few, lent))
      go (no h) =
          filled_rest (job_at table) n blanks i no_job (omega arith)
          ∙ (get_or-replicate 255 i no_job no_job (omega arith) ∙ sym (filled_rest (action_in rs) (min n 24) (replicate 24 no_job) i no_job (omega arith) ∙ get_or-replicate 24 i no_job no_job l))

  long : (f : ℕ → Action) (m : ℕ) → length (filled f m (replicate 24 no_job)) ≡ 24
  long f m = length_filled f m (replicate 24 no_job) ∙ length-replicate {A = Action} 24 no_job

  pub as_read : loaded new ≡ (reading file 255).table
  as_read =
      ap loaded (x.records ∙ (ap (λ (m : ℕ). filled (job_at (reading file m).table) (reading file m).ask.jobs blanks) lent ∙ ap (λ (y : Read). filled (job_at y.table) y.ask.jobs blanks) read))
      ∙ ((λ j. record {
        jobs = ext_get_or no_job (loaded us).jobs table.jobs (long _ _ ∙ sym (long _ _)) (λ i l. at i (omega (arith, long (record_at us) (min (length us) 24)))) j;
        lent = (length_filled (job_at table) n blanks ∙ lent) j;
      }) ∙ sym (ap (λ (y : Read). y.table) read))
