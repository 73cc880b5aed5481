-- What the writer saved last is what tidying leaves of a file: that save alone, its records and its trailer.
-- Assumes nothing.
use mathlib.Core.Path.{◌≡◌, sym, ap, ap₂, ◌∙◌}
use mathlib.Core.List.{List}
use Prim.Native.Nat.{ℕ, ◌+◌, ◌-◌, ◌*◌, ◌≤◌}
use native.Mathlib.Omega.{arith}
use lib.ListN.{length, take, drop}
use Rattle.refusals.specs.Refusals.{Verdict, accepted}
use Rattle.tables.specs.declared.Loaded.{Loaded}
use Rattle.tables.specs.declared.Ask.{Ask}
use Rattle.tables.specs.declared.Answer.{Answer}
use Rattle.tables.specs.Tables.{answer_of}
use Rattle.jobfile.specs.Format.{save_of, length_after, trailer_in, distance_in, save_length}
use Rattle.jobfile.specs.Calls.{read_checks, Writes}
use Rattle.jobfile.specs.Tidy.{tidy_checks, Tidies}
use Rattle.jobfile.proofs.Back.{written, written_reads, written_distance, written_save, written_fits, written_few, wrote, value_read, bytes_laid}
use Rattle.jobfile.proofs.Tidy.{tidy_reads, front_is}

module _ (l : Loaded) (q : Ask) (used : ℕ) (old mid : List ℕ) (r : Answer) (x : Writes l q used old mid r) (z : r.number ≡ 0) where
  abbrev file : List ℕ
  file = take r.value mid

  file_is : file ≡ written l q used old (wrote l q used old mid r x z)
  file_is = ap₂ (λ (n : ℕ) (xs : List ℕ). take n xs) (value_read l q used old mid r x z) (bytes_laid l q used old mid r x z)

  long : save_length file ≡ 32 * q.jobs + 24
  long = ap (λ (xs : List ℕ). distance_in (trailer_in xs) + 24) file_is ∙ ap (λ (d : ℕ). d + 24) (written_distance l q used old (wrote l q used old mid r x z))

  checks : tidy_checks r.value mid ≡ accepted
  checks =
      let f = written_fits l q used old (wrote l q used old mid r x z) in
      let v = value_read l q used old mid r x z in
      tidy_reads r.value mid (omega (arith, v, f.1)) (omega (arith, v, f.2, ap length (bytes_laid l q used old mid r x z)))
      ∙ ap (λ (xs : List ℕ). read_checks xs 255) file_is
      ∙ written_reads l q used old (wrote l q used old mid r x z)

  module _ (new : List ℕ) (s : Answer) (y : Tidies r.value mid new s) where
    -- tidying is not refused, and its value is the length of one save
    pub tidied_says : s ≡ answer_of accepted (32 * q.jobs + 24) 0
    tidied_says = y.says ∙ ap₂ (λ (v : Verdict) (n : ℕ). answer_of v n 0) checks long

    -- the bytes of that save stand at the front
    pub tidied_save : take (32 * q.jobs + 24) new ≡ save_of l q
    tidied_save =
        let f = written_fits l q used old (wrote l q used old mid r x z) in
        let e : length file - save_length file ≡ used = omega (arith, ap length file_is, f.0, long) in
        ap (λ (a : Answer). take a.value new) (sym tidied_says)
        ∙ front_is r.value mid new s y (ap (λ (a : Answer). a.number) tidied_says)
        ∙ ap₂ (λ (n : ℕ) (xs : List ℕ). drop n xs) e file_is
        ∙ written_save l q used old (wrote l q used old mid r x z)

    -- behind it and up to 80 saves of 792 bytes, which is the longest that the writer makes, there is room for one more
    pub room_again : (jobs saves : ℕ) → jobs ≤ 24 → saves ≤ 80 → length_after (s.value + saves * 792) jobs ≤ 65536
    room_again jobs saves few most = omega (arith, ap (λ (a : Answer). a.value) tidied_says, written_few l q used old (wrote l q used old mid r x z))
