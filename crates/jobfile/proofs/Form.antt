-- A save has one form: where the distance is exactly 32 times the job count, the bytes from the first record on are those that the writer lays for what is read.
-- Assumes nothing.
use mathlib.Core.Path.{◌≡◌, refl, sym, ap, ap₂, ◌∙◌, subst}
use mathlib.Core.Bool.{false}
use mathlib.Core.List.{List, ◌++◌}
use Prim.Native.Nat.{ℕ, zero, suc, ◌+◌, ◌-◌, ◌*◌, ◌≤◌, ◌<◌, min}
use native.Mathlib.Nat.{add-zero}
use native.Mathlib.Omega.{arith}
use lib.Dec.{T, eqb, eqb→eq, ltb}
use lib.ListN.{length, take, drop, replicate, length-drop, take-append-drop}
use lib.Seq.{length-take-le, drop-drop}
use Rattle.facts.specs.Least.{any}
use Rattle.facts.proofs.Bools.{certain, or_l, or_r, at_most}
use Rattle.facts.proofs.Least.{any_of}
use Rattle.refusals.specs.Refusals.{Verdict, accepted}
use Rattle.refusals.proofs.Refused.{if_zero}
use Rattle.tables.specs.declared.Action.{Action}
use Rattle.tables.specs.declared.Loaded.{Loaded}
use Rattle.tables.specs.declared.Ask.{Ask}
use Rattle.tables.specs.Tables.{no_job, job_at}
use Rattle.tables.proofs.Calls.{cleared}
use Rattle.tables.proofs.Lent.{filled_at}
use Rattle.bytes_le.specs.Little.{number}
use Rattle.bytes_le.specs.Steps.{Bytes}
use Rattle.bytes_le.proofs.Stands.{Stands, stands_both, stands_all, bytes_take, bytes_drop}
use Rattle.bytes_le.proofs.Fields.{found_fields}
use Rattle.jobfile.specs.declared.Read.{Read}
use Rattle.jobfile.specs.Format.{record_fields, record_of, records_of, trailer_fields, trailer_of, save_of, trailer_at, trailer_in, ask_in, distance_in, too_far, records_in, spoilt, action_in, table_in}
use Rattle.jobfile.specs.Calls.{read_checks, save_checks, handed_from, reading}
use Rattle.jobfile.proofs.Checks.{any_test}
use Rattle.jobfile.proofs.Saves.{length_records, length_trailer}

-- what a file that is read holds, by name
abbrev ask_of : List ℕ → Ask
ask_of file = ask_in (trailer_in file)

abbrev table_of : List ℕ → (room : ℕ) → Loaded
table_of file room = table_in (records_in file) (ask_of file).jobs room

-- what the checks of the reader passed
pub record Fine (file : List ℕ) : Type 0 where
  pub short : length file ≤ 65536
  pub long : 24 ≤ length file
  pub far : 32 * (ask_in (trailer_in file)).jobs ≤ distance_in (trailer_in file)
  pub near : distance_in (trailer_in file) ≤ trailer_at file
  pub clean : T (any (spoilt (records_in file)) (ask_in (trailer_in file)).jobs) → ⊥
  pub count : (ask_in (trailer_in file)).jobs ≤ 24

pub fine : (file : List ℕ) (room : ℕ) → read_checks file room ≡ accepted → Fine file
unfolding read_checks save_checks
fine file room h =
    let a = if_zero (ltb 65536 (length file)) 1 0 _ (omega arith) h in
    let b = if_zero (ltb (length file) 24) 2 0 _ (omega arith) a.1 in
    let c = if_zero (too_far d n (trailer_at file)) 2 0 _ (omega arith) b.1 in
    let e = if_zero (any (spoilt (records_in file)) n) 2 0 _ (omega arith) c.1 in
    record {
      short = at_most 65536 (length file) a.0;
      long = at_most (length file) 24 b.0;
      far = at_most d (32 * n) (λ x. c.0 (or_l (ltb d (32 * n)) _ x));
      near = at_most (trailer_at file) d (λ x. c.0 (or_r (ltb d (32 * n)) _ x));
      clean = e.0;
      count = (cleared false (ask_of file).bound (table_of file room) (ask_of file) e.1).few;
    }
  where
    d : ℕ
    d = distance_in (trailer_in file)

    n : ℕ
    n = (ask_of file).jobs

module _ (file : List ℕ) (room : ℕ) (bytes : Bytes file) (f : Fine file) (exact : distance_in (trailer_in file) ≡ 32 * (ask_of file).jobs) where
  trailer_form : trailer_in file ≡ trailer_of (ask_of file)
  trailer_form =
      stands_all (trailer_of (ask_of file)) (trailer_in file) (omega (arith, length-drop (trailer_at file) file, length_trailer (ask_of file), f.long))
      (found_fields (trailer_fields (ask_of file)) 0 0 (trailer_in file) (bytes_drop (trailer_at file) file bytes) (refl, (refl, (refl, (refl, (refl, (exact, tt)))))))

  -- one record
  record_form : (i : ℕ) → i < (ask_of file).jobs → Stands (record_of (job_at (table_of file room) i)) (32 * i + 0) (records_in file)
  unfolding spoilt
  record_form i l =
      found_fields (record_fields (job_at (table_of file room) i)) (32 * i) 0 (records_in file) (bytes_take (32 * (ask_of file).jobs) (drop first file) (bytes_drop first file bytes))
      (ap (number 8 (records_in file)) (add-zero (32 * i)) ∙ ap (λ (a : Action). a.conditions) held, (ap (λ (a : Action). a.additions) held, (ap (λ (a : Action). a.deletions) held, (ap (λ (a : Action). a.duration) held, (ap (λ (a : Action). a.release) held, (zeros, tt))))))
    where
      first : ℕ
      first = trailer_at file - distance_in (trailer_in file)

      held : action_in (records_in file) i ≡ job_at (table_of file room) i
      held = sym (filled_at (action_in (records_in file)) (min (ask_of file).jobs 24) (replicate 24 no_job) i no_job (omega (arith, f.count)) (omega (arith, f.count)))

      zeros : number 4 (records_in file) (32 * i + 28) ≡ 0
      zeros =
          eqb→eq (number 4 (records_in file) (32 * i + 28)) 0
          (certain (eqb (number 4 (records_in file) (32 * i + 28)) 0) (λ x. f.clean (any_of (spoilt (records_in file)) (ask_of file).jobs i l (subst T (any_test 4 (records_in file) (32 * i + 28)) x))))

  first_form : (k : ℕ) → k ≤ (ask_of file).jobs → Stands (records_of (table_of file room) k) 0 (records_in file)
  unfolding records_of
  first_form zero m = λ i l. absurd (omega arith)
  first_form (suc k) m =
      stands_both (records_of (table_of file room) k) (record_of (job_at (table_of file room) k)) 0 (records_in file) (first_form k (omega arith))
      (subst (λ (n : ℕ). Stands (record_of (job_at (table_of file room) k)) n (records_in file)) at (record_form k (omega arith)))
    where
      at : 32 * k + 0 ≡ 0 + length (records_of (table_of file room) k)
      at = omega (arith, length_records (table_of file room) k)

  records_form : records_in file ≡ records_of (table_of file room) (ask_of file).jobs
  records_form =
      stands_all (records_of (table_of file room) (ask_of file).jobs) (records_in file)
      (length-take-le (32 * (ask_of file).jobs) (drop (trailer_at file - distance_in (trailer_in file)) file)
      (omega (arith, length-drop (trailer_at file - distance_in (trailer_in file)) file, f.far, f.near, f.long)) ∙ sym (length_records (table_of file room) (ask_of file).jobs))
      (first_form (ask_of file).jobs (omega arith))

  save_form : drop (trailer_at file - 32 * (ask_of file).jobs) file ≡ save_of (table_of file room) (ask_of file)
  unfolding save_of
  save_form =
      sym (take-append-drop (32 * (ask_of file).jobs) (drop (trailer_at file - 32 * (ask_of file).jobs) file))
      ∙ ap₂ (λ (a b : List ℕ). a ++ b)
      (ap (λ (d : ℕ). take (32 * (ask_of file).jobs) (drop (trailer_at file - d) file)) (sym exact) ∙ records_form)
      (drop-drop (32 * (ask_of file).jobs) (trailer_at file - 32 * (ask_of file).jobs) file ∙ ap (λ (d : ℕ). drop d file) whole_way ∙ trailer_form)
    where
      whole_way : trailer_at file - 32 * (ask_of file).jobs + 32 * (ask_of file).jobs ≡ trailer_at file
      whole_way = omega (arith, f.far, f.near, exact)

-- the bytes from the first record on are the save that the writer lays for what is read
pub one_form : (file : List ℕ) (room : ℕ) → Bytes file → read_checks file room ≡ accepted → distance_in (trailer_in file) ≡ 32 * (ask_in (trailer_in file)).jobs
    → drop (trailer_at file - 32 * (ask_in (trailer_in file)).jobs) file ≡ save_of (table_in (records_in file) (ask_in (trailer_in file)).jobs room) (ask_in (trailer_in file))
one_form file room b h e = save_form file room b (fine file room h) e

-- a save and nothing before it or between its records and its trailer
pub record Alone (file : List ℕ) : Type 0 where
  pub exact : distance_in (trailer_in file) ≡ 32 * (ask_in (trailer_in file)).jobs
  pub first : trailer_at file ≡ 32 * (ask_in (trailer_in file)).jobs

alone_form : (file : List ℕ) (room : ℕ) → Bytes file → read_checks file room ≡ accepted → Alone file → file ≡ save_of (table_of file room) (ask_of file)
alone_form file room b h a = let z : 0 ≡ trailer_at file - 32 * (ask_of file).jobs = omega (arith, a.first) in ap (λ (n : ℕ). drop n file) z ∙ one_form file room b h a.exact

-- two saves that read alike are the same bytes
pub same_save : (xs ys : List ℕ) (room : ℕ) → Bytes xs → Bytes ys → read_checks xs room ≡ accepted → read_checks ys room ≡ accepted → Alone xs → Alone ys
    → reading xs room ≡ reading ys room → xs ≡ ys
same_save xs ys room bx by hx hy ax ay e =
    alone_form xs room bx hx ax
    ∙ ap (λ (r : Read). save_of r.table r.ask) (sym (ap (λ (v : Verdict). handed_from v xs room) hx) ∙ e ∙ ap (λ (v : Verdict). handed_from v ys room) hy)
    ∙ sym (alone_form ys room by hy ay)
