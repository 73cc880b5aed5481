-- Reading what was written gives back what was saved, whatever stood before.
-- Assumes nothing.
use mathlib.Core.Path.{◌≡◌, sym, ap, ap₂, ◌∙◌, subst}
use mathlib.Core.Logic.{◌⊎◌, inl, inr, ⊎_elim}
use mathlib.Core.Bool.{false, not, ◌||◌}
use mathlib.Core.List.{List}
use Prim.Native.Nat.{ℕ, zero, suc, ◌+◌, ◌-◌, ◌*◌, ◌≤◌, ◌<◌, min}
use native.Mathlib.Nat.{add-zero}
use native.Mathlib.Omega.{arith}
use lib.Dec.{T, eqb, ltb, ltb→lt}
use lib.ListN.{length, take, drop, replicate, length-drop}
use lib.Seq.{length-take-le}
use Rattle.facts.specs.Least.{any}
use Rattle.facts.proofs.Bools.{or_cases, below_suc, at_most}
use Rattle.facts.proofs.Least.{any_at}
use Rattle.refusals.specs.Refusals.{Verdict, accepted}
use Rattle.rules.specs.Table.{table_checks, bound_check}
use Rattle.refusals.proofs.Refused.{if_zero, if_pass}
use Rattle.rules.proofs.Checked.{Passed, passed_conditions, passed_additions, passed_deletions, passed_opening, passed_goals}
use Rattle.tables.specs.declared.Action.{Action}
use Rattle.tables.specs.declared.Loaded.{Loaded}
use Rattle.tables.specs.declared.Ask.{Ask}
use Rattle.tables.specs.declared.Answer.{Answer}
use Rattle.tables.specs.Tables.{no_job, job_at, problem, answer_of, changed, call_checks}
use Rattle.tables.proofs.Laws.{unmarked_sum, gap_one}
use Rattle.tables.proofs.Calls.{call_passed, cleared}
use Rattle.tables.proofs.Lent.{filled_at, filled_same}
use Rattle.bytes_le.specs.Little.{number, laid}
use Rattle.bytes_le.proofs.Stands.{Stands, stands_left, stands_right, stands_drop, stands_take, stands_laid, stands_all}
use Rattle.bytes_le.proofs.Laid.{length_laid}
use Rattle.bytes_le.proofs.Fields.{Found, fields_found}
use Rattle.jobfile.specs.Format.{record_fields, record_of, records_of, trailer_fields, trailer_of, save_of, length_after, trailer_at, trailer_in, ask_in, distance_in, too_far, records_in, spoilt, action_in, first_of, table_in}
use Rattle.jobfile.specs.Calls.{save_checks, read_checks, whole, handed_from, reading, write_checks, Writes}
use Rattle.jobfile.specs.Saved.{saved, kept}
use Rattle.jobfile.proofs.Checks.{any_test, write_accepts}
use Rattle.jobfile.proofs.Saves.{length_records, length_save}
use Rattle.jobfile.proofs.Same.{checks_same}

-- ── what the checks of the writer passed ──

record Accepted (l : Loaded) (q : Ask) (used size : ℕ) : Type 0 where
  short : length_after used q.jobs ≤ 65536
  room : length_after used q.jobs ≤ size
  table : table_checks (problem l q) (bound_check q.bound accepted) ≡ accepted
  passed : Passed (problem l q)
  bound : q.bound ≤ 2880

accepted_write : (l : Loaded) (q : Ask) (used size : ℕ) → write_checks l q used size ≡ accepted → Accepted l q used size
unfolding write_checks
accepted_write l q used size h =
    let a = if_zero (ltb 65536 n) 1 0 _ (omega arith) h in
    let c = cleared (ltb size n) q.bound l q a.1 in
    record {
      short = at_most 65536 n a.0;
      room = at_most size n c.room;
      table = (if_zero (ltb size n || ltb l.lent q.jobs) 3 0 _ (omega arith) a.1).1;
      passed = call_passed (ltb size n) q.bound l q a.1;
      bound = c.within;
    }
  where
    n : ℕ
    n = length_after used q.jobs

-- ── a trailer and records that stand in a file ──

module _ (l : Loaded) (q : Ask) (p : Passed (problem l q)) (bound : q.bound ≤ 2880) where
  trailer_read : (t : List ℕ) → Stands (trailer_of q) 0 t → (ask_in t ≡ saved q) × (distance_in t ≡ 32 * q.jobs)
  trailer_read t s =
      let n = p.count in
      let a : q.atoms ≤ 192 = omega (arith, p.atoms.1, unmarked_sum q.atoms, gap_one q.atoms) in
      let f = fields_found (trailer_fields q) 0 0 t (passed_opening (problem l q) p, (passed_goals (problem l q) p, (omega arith, (omega arith, (omega arith, (omega arith, tt)))))) s in
      (cc (f.0, f.1.0, f.1.1.0, f.1.1.1.0, f.1.1.1.1.0), f.1.1.1.1.1.0)

  module _ (rs : List ℕ) (s : Stands (records_of l q.jobs) 0 rs) where
    each : (n : ℕ) → Stands (records_of l n) 0 rs → (i : ℕ) → i < n → Stands (record_of (job_at l i)) (32 * i + 0) rs
    unfolding records_of
    each zero h i m = absurd (omega arith)
    each (suc k) h i m = go (below_suc i k m) (each k (stands_left (records_of l k) (record_of (job_at l k)) 0 rs h) i)
      where
        go : (i < k) ⊎ (i ≡ k) → (i < k → Stands (record_of (job_at l i)) (32 * i + 0) rs) → Stands (record_of (job_at l i)) (32 * i + 0) rs
        go (inl x) f = f x
        go (inr e) f = subst (λ (j : ℕ). Stands (record_of (job_at l j)) (32 * j + 0) rs) (sym e) (subst (λ (n : ℕ). Stands (record_of (job_at l k)) n rs) at (stands_right (records_of l k) (record_of (job_at l k)) 0 rs h))
          where
            at : 0 + length (records_of l k) ≡ 32 * k + 0
            at = omega (arith, length_records l k)

    found : (i : ℕ) → i < q.jobs → Found (record_fields (job_at l i)) (32 * i) 0 rs
    found i m =
        let d = (p.durations i m).1 in
        let r = p.releases i m in
        fields_found _ (32 * i) 0 rs (passed_conditions (problem l q) p i m, (passed_additions (problem l q) p i m, (passed_deletions (problem l q) p i m, (omega arith, (omega arith, (omega arith, tt)))))) (each q.jobs s i m)

    action_is : (i : ℕ) → i < q.jobs → action_in rs i ≡ job_at l i
    action_is i m = let f = found i m in let first = ap (number 8 rs) (sym (add-zero (32 * i))) ∙ f.0 in λ j. record { conditions = first j; additions = f.1.0 j; deletions = f.1.1.0 j; duration = f.1.1.1.0 j; release = f.1.1.1.1.0 j }

    clean : T (any (spoilt rs) q.jobs) → ⊥
    unfolding spoilt
    clean h =
        let y = any_at (spoilt rs) q.jobs h in
        subst T (sym (any_test 4 rs (32 * y.0 + 28)) ∙ ap (λ (n : ℕ). not (eqb n 0)) (found y.0 y.1).1.1.1.1.1.0) y.2

    table_is : (room : ℕ) → table_in rs q.jobs room ≡ kept l q.jobs room
    table_is room =
        let m : min q.jobs 24 ≡ q.jobs = omega (arith, p.count) in
        ap (λ (n : ℕ). first_of rs n room) m ∙ ap (λ (ts : List Action). record { jobs = ts; lent = room }) (filled_same (action_in rs) (job_at l) q.jobs (replicate 24 no_job) action_is)

  -- the table that comes back is judged as the one that was saved
  kept_accepted : (room : ℕ) → q.jobs ≤ room → table_checks (problem l q) (bound_check q.bound accepted) ≡ accepted → call_checks false q.bound (kept l q.jobs room) (saved q) accepted ≡ accepted
  kept_accepted room lent t =
      if_pass _ 3 0 _ (λ h. omega (arith, ltb→lt room q.jobs h))
      ∙ checks_same (kept l q.jobs room) l (saved q) (bound_check q.bound accepted) (λ i h. filled_at (job_at l) q.jobs (replicate 24 no_job) i no_job h (omega (arith, p.count)))
      ∙ t

-- ── there and back ──

-- a file that ends in a save, from place `base` on
module _ (l : Loaded) (q : Ask) (base size : ℕ) (a : Accepted l q base size) (file : List ℕ) (long : length file ≡ length_after base q.jobs)
    (s : Stands (save_of l q) base file) where
  trailer_at_lem : trailer_at file ≡ base + 32 * q.jobs
  trailer_at_lem = omega (arith, long)

  trailer_is : (ask_in (trailer_in file) ≡ saved q) × (distance_in (trailer_in file) ≡ 32 * q.jobs)
  unfolding save_of
  trailer_is =
      trailer_read l q a.passed a.bound (trailer_in file)
      (stands_drop (trailer_of q) (trailer_at file) 0 file
      (subst (λ (n : ℕ). Stands (trailer_of q) n file) at (stands_right (records_of l q.jobs) (trailer_of q) base file s)))
    where
      at : base + length (records_of l q.jobs) ≡ trailer_at file + 0
      at = omega (arith, length_records l q.jobs, trailer_at_lem)

  records_are : Stands (records_of l q.jobs) 0 (records_in file)
  unfolding save_of
  records_are =
      stands_take (records_of l q.jobs) _ 0 _ fits
      (stands_drop (records_of l q.jobs) (trailer_at file - distance_in (trailer_in file)) 0 file
      (subst (λ (n : ℕ). Stands (records_of l q.jobs) n file) at (stands_left (records_of l q.jobs) (trailer_of q) base file s)))
    where
      fits : 0 + length (records_of l q.jobs) ≤ 32 * (ask_in (trailer_in file)).jobs
      fits = omega (arith, length_records l q.jobs, ap (λ (x : Ask). x.jobs) trailer_is.0)

      at : base ≡ trailer_at file - distance_in (trailer_in file) + 0
      at = omega (arith, trailer_at_lem, trailer_is.1)

  near : T (too_far (distance_in (trailer_in file)) (ask_in (trailer_in file)).jobs (trailer_at file)) → ⊥
  near h =
      let n = ap (λ (x : Ask). x.jobs) trailer_is.0 in
      ⊎_elim (λ x. omega (arith, ltb→lt (distance_in (trailer_in file)) (32 * (ask_in (trailer_in file)).jobs) x, trailer_is.1))
      (λ x. omega (arith, ltb→lt (trailer_at file) (distance_in (trailer_in file)) x, trailer_is.1, trailer_at_lem))
      (or_cases (ltb (distance_in (trailer_in file)) (32 * (ask_in (trailer_in file)).jobs)) _ h)

  module _ (room : ℕ) (lent : q.jobs ≤ room) where
    table_same : table_in (records_in file) (ask_in (trailer_in file)).jobs room ≡ kept l q.jobs room
    table_same = ap (λ (x : Ask). table_in (records_in file) x.jobs room) trailer_is.0 ∙ table_is l q a.passed a.bound (records_in file) records_are room

    judged : call_checks false (ask_in (trailer_in file)).bound (table_in (records_in file) (ask_in (trailer_in file)).jobs room) (ask_in (trailer_in file)) accepted ≡ accepted
    judged = ap₂ (λ (t : Loaded) (x : Ask). call_checks false x.bound t x accepted) table_same trailer_is.0 ∙ kept_accepted l q a.passed a.bound room lent a.table

    reads : read_checks file room ≡ accepted
    unfolding read_checks save_checks
    reads =
        if_pass _ 1 0 _ (λ h. omega (arith, ltb→lt 65536 (length file) h, long, a.short))
        ∙ if_pass _ 2 0 _ (λ h. omega (arith, ltb→lt (length file) 24 h, long))
        ∙ if_pass _ 2 0 _ near
        ∙ if_pass _ 2 0 _ (λ h. clean l q a.passed a.bound (records_in file) records_are (subst (λ (x : Ask). T (any (spoilt (records_in file)) x.jobs)) trailer_is.0 h))
        ∙ judged

    reading_is : reading file room ≡ whole (answer_of accepted 0 0) (saved q) (kept l q.jobs room)
    reading_is = ap (λ (v : Verdict). handed_from v file room) reads ∙ ap₂ (whole (answer_of accepted 0 0)) trailer_is.0 table_same

-- a buffer that a save was laid into
module _ (l : Loaded) (q : Ask) (used : ℕ) (buf : List ℕ) (h : write_checks l q used (length buf) ≡ accepted) where
  allowed : Accepted l q used (length buf)
  allowed = accepted_write l q used (length buf) h

  laid_long : length (laid (save_of l q) used buf) ≡ length buf
  laid_long = length_laid (save_of l q) used buf (omega (arith, length_save l q, allowed.room))

  -- the first bytes, up to the new length
  abbrev pub written : List ℕ
  written = take (length_after used q.jobs) (laid (save_of l q) used buf)

  written_long : length written ≡ length_after used q.jobs
  written_long = length-take-le (length_after used q.jobs) (laid (save_of l q) used buf) (omega (arith, laid_long, allowed.room))

  stands : Stands (save_of l q) used written
  stands = stands_take (save_of l q) (length_after used q.jobs) used _ (omega (arith, length_save l q)) (stands_laid (save_of l q) used buf (omega (arith, allowed.room)))

  pub read_back : (room : ℕ) → q.jobs ≤ room → reading written room ≡ whole (answer_of accepted 0 0) (saved q) (kept l q.jobs room)
  read_back room lent = reading_is l q used (length buf) allowed written written_long stands room lent

  -- they end in the save, at the distance of its records, and are read with 255 records
  pub written_reads : read_checks written 255 ≡ accepted
  written_reads = reads l q used (length buf) allowed written written_long stands 255 (omega (arith, allowed.passed.count))

  pub written_distance : distance_in (trailer_in written) ≡ 32 * q.jobs
  written_distance = (trailer_is l q used (length buf) allowed written written_long stands).1

  pub written_save : drop used written ≡ save_of l q
  written_save =
      let e : used ≡ used + 0 = omega arith in
      stands_all (save_of l q) (drop used written) (omega (arith, length-drop used written, written_long, length_save l q))
      (stands_drop (save_of l q) used 0 written (subst (λ (n : ℕ). Stands (save_of l q) n written) e stands))

  pub written_fits : (length written ≡ length_after used q.jobs) × (length_after used q.jobs ≤ 65536) × (length_after used q.jobs ≤ length (laid (save_of l q) used buf))
  written_fits = (written_long, allowed.short, omega (arith, laid_long, allowed.room))

  pub written_few : q.jobs ≤ 24
  written_few = allowed.passed.count

-- ── by what the writer promises ──

module _ (l : Loaded) (q : Ask) (used : ℕ) (old new : List ℕ) (r : Answer) (x : Writes l q used old new r) (z : r.number ≡ 0) where
  pub wrote : write_checks l q used (length old) ≡ accepted
  wrote = write_accepts l q used (length old) (ap (λ (a : Answer). a.number) (sym x.says) ∙ z)

  -- where it accepts, the value returned is the length to read
  pub value_read : r.value ≡ length_after used q.jobs
  value_read = ap (λ (a : Answer). a.value) x.says ∙ ap (λ (v : Verdict). (answer_of v (length_after used q.jobs) 0).value) wrote

  pub bytes_laid : new ≡ laid (save_of l q) used old
  bytes_laid = x.bytes ∙ ap (λ (v : Verdict). changed v (laid (save_of l q) used old) old) wrote

  pub written_back : (room : ℕ) → q.jobs ≤ room → reading (take r.value new) room ≡ whole (answer_of accepted 0 0) (saved q) (kept l q.jobs room)
  written_back room lent = ap₂ (λ (n : ℕ) (xs : List ℕ). reading (take n xs) room) value_read bytes_laid ∙ read_back l q used old wrote room lent
