-- Rows that are right stay right, whatever the edits: bit by bit, then edit by edit.
-- Assumes nothing.
use mathlib.Core.Path.{◌≡◌, refl, sym, ap, ap₂, subst, ◌∙◌}
use mathlib.Core.Logic.{◌≢◌, ◌⊎◌, inl, inr, ⊎_elim}
use mathlib.Core.Bool.{Bool, not, ◌&&◌, ◌||◌, cond}
use mathlib.Core.List.{List}
use Prim.Native.Nat.{ℕ, suc, ◌-◌, ◌≤◌, ◌<◌}
use native.Mathlib.Decide.{dec_lt}
use native.Mathlib.Omega.{arith}
use mathlib.Core.Logic.{◌↔◌}
use lib.Dec.{T, eqb, ltb, eqb→eq, eqb_refl, ltb→lt, lt→ltb, T_not}
use lib.ListN.{get_or, replicate, length-replicate, get_or-eq_default}
use lib.Seq.{get_or-set_other}
use Rattle.facts.specs.Facts.{has}
use Rattle.readings.specs.Opening.{word_of}
use Rattle.facts.proofs.Bools.{T?, same, and_l, and_r, and_of, or_l, or_r, eqb_of, at_most, chosen, unchosen}
use Rattle.facts.proofs.Sets.{has_zero, same_word}
use Rattle.rules.specs.Table.{Problem}
use Rattle.rules.specs.Clashes.{clash_of, numbers, interfere}
use Rattle.interference.specs.Records.{record_masks}
use Rattle.tables.specs.declared.Action.{Action}
use Rattle.tables.specs.Tables.{no_job, record_at, filled}
use Rattle.tables.proofs.Lent.{length_filled, filled_at, filled_same}
use Rattle.opentable.specs.declared.OpenTable.{OpenTable}
use Rattle.opentable.specs.Open.{present, places, bit_rows, kept_bit, clash_bit, moved_from, empty_of, reclashed, without_job}
use Rattle.opentable.specs.Rows.{Right}
use Rattle.opentable.specs.Steps.{with_record}
use Rattle.opentable.proofs.Given.{word_in, word_bit, word_same}

-- ── bit by bit ──

-- an entry of a list of 24
pub place_at : {A : Type 0} (none : A) (f : ℕ → A) (i : ℕ) → i < 24 → get_or (places none f) i none ≡ f i
place_at {A} none f i l = filled_at f 24 (replicate 24 none) i none l (omega (arith, length-replicate {A = A} 24 none, l))

pub place_behind : {A : Type 0} (none : A) (f : ℕ → A) (i : ℕ) → 24 ≤ i → get_or (places none f) i none ≡ none
place_behind {A} none f i l = get_or-eq_default (places none f) none (omega (arith, length_filled f 24 (replicate 24 none), length-replicate {A = A} 24 none, l))

-- a bit of rows given by their bits
row_bit : (b : ℕ → ℕ → Bool) (i j : ℕ) → i < 24 → j < 32 → has (get_or (bit_rows b) i 0) j ≡ b i j
row_bit b i j l m = ap (λ (w : ℕ). has w j) (place_at 0 (λ i. word_of (b i) 32) i l) ∙ word_bit (b i) 32 j m

-- rows are given by their bits
pub rows_same : (b c : ℕ → ℕ → Bool) → ((i j : ℕ) → i < 24 → j < 32 → b i j ≡ c i j) → bit_rows b ≡ bit_rows c
rows_same b c h = filled_same (λ i. word_of (b i) 32) (λ i. word_of (c i) 32) 24 (replicate 24 0) (λ i l. word_same (b i) (c i) 32 (λ j m. h i j l m))

-- a bit that is kept is one of the 24 rows and 32 columns
kept_in : (b : ℕ → ℕ → Bool) (i j : ℕ) → T (has (get_or (bit_rows b) i 0) j) → (i < 24) × (j < 32)
kept_in b i j t = go (dec_lt i 24)
  where
    go : Dec (i < 24) → (i < 24) × (j < 32)
    go (yes l) = (l, (word_in (b i) 32 j (subst (λ (w : ℕ). T (has w j)) (place_at 0 (λ i. word_of (b i) 32) i l) t)).0)
    go (no n) = absurd (has_zero j (subst (λ (w : ℕ). T (has w j)) (place_behind 0 (λ i. word_of (b i) 32) i (omega (arith, n))) t))

-- a bit that the rule sets
pub bit_of : (P : Problem) (i j : ℕ) → T (clash_bit P i j) → (i < P.count) × (j < P.count) × T (interfere P i j)
unfolding clash_bit
bit_of P i j t =
    let r = and_r (ltb i P.count) (ltb j P.count && interfere P i j) t in
    (ltb→lt i P.count (and_l (ltb i P.count) (ltb j P.count && interfere P i j) t), ltb→lt j P.count (and_l (ltb j P.count) (interfere P i j) r), and_r (ltb j P.count) (interfere P i j) r)

pub of_bit : (P : Problem) (i j : ℕ) → i < P.count → j < P.count → T (interfere P i j) → T (clash_bit P i j)
unfolding clash_bit
of_bit P i j l m t = and_of (ltb i P.count) (ltb j P.count && interfere P i j) (lt→ltb i P.count l) (and_of (ltb j P.count) (interfere P i j) (lt→ltb j P.count m) t)

-- ── what right rows say ──

module _ (t : OpenTable) (x : Right t) where
  kept_low : (i j : ℕ) → i < 24 → j < 32 → kept_bit t i j ≡ clash_bit (present t) i j
  kept_low i j l m = ap (λ (rows : List ℕ). has (get_or rows i 0) j) x ∙ row_bit (clash_bit (present t)) i j l m

  kept_there : (i j : ℕ) → T (kept_bit t i j) → T (clash_bit (present t) i j)
  kept_there i j h =
      let w = kept_in (clash_bit (present t)) i j (subst (λ (rows : List ℕ). T (has (get_or rows i 0) j)) x h) in
      subst T (kept_low i j w.0 w.1) h

  -- each bit is the rule's
  pub right_bit : t.count ≤ 24 → (i j : ℕ) → kept_bit t i j ≡ clash_bit (present t) i j
  right_bit few i j =
      same (kept_bit t i j) (clash_bit (present t) i j) (kept_there i j)
      (λ h. let b = bit_of (present t) i j h in subst T (sym (kept_low i j (omega (arith, few, b.0)) (omega (arith, few, b.1)))) h)

  -- a job's own bit is 0
  pub own_bit : (i : ℕ) → T (kept_bit t i i) → ⊥
  unfolding interfere
  own_bit i h = T_not (eqb i i) (and_l (not (eqb i i)) _ (bit_of (present t) i i (kept_there i i h)).2) (eqb_refl i)

  -- the row of a job that is not there is 0
  pub absent_row : (i : ℕ) → t.count ≤ i → get_or t.rows i 0 ≡ 0
  absent_row i l = same_word (get_or t.rows i 0) 0 (λ p. same (has (get_or t.rows i 0) p) (has 0 p) (λ h. absurd (omega (arith, (bit_of (present t) i p (kept_there i p h)).0, l))) (λ z. absurd (has_zero p z)))

-- whether two jobs interfere, by their numbers and their records
abbrev crossing : (i j : ℕ) → Action → Action → Bool
crossing i j a b = not (eqb i j) && not (eqb (numbers (clash_of (record_masks a) (record_masks b))).kind 0)

by_records : (t : OpenTable) (i j : ℕ) → interfere (present t) i j ≡ crossing i j (record_at t.jobs i) (record_at t.jobs j)
unfolding interfere
by_records t i j = refl

-- ── the bits of one job worked out anew ──

reclashed_right : (t : OpenTable) (k : ℕ) → ((i j : ℕ) → i < 24 → j < 32 → i ≢ k → j ≢ k → kept_bit t i j ≡ clash_bit (present t) i j) → Right (reclashed t k)
unfolding reclashed
reclashed_right t k h = rows_same (λ i j. cond (eqb i k || eqb j k) (clash_bit (present t) i j) (kept_bit t i j)) (clash_bit (present t)) (λ i j l m. go i j l m (T? (eqb i k || eqb j k)))
  where
    go : (i j : ℕ) → i < 24 → j < 32 → T (eqb i k || eqb j k) ⊎ (T (eqb i k || eqb j k) → ⊥) → cond (eqb i k || eqb j k) (clash_bit (present t) i j) (kept_bit t i j) ≡ clash_bit (present t) i j
    go i j l m (inl a) = chosen (eqb i k || eqb j k) (clash_bit (present t) i j) (kept_bit t i j) a
    go i j l m (inr n) = unchosen (eqb i k || eqb j k) (clash_bit (present t) i j) (kept_bit t i j) n ∙ h i j l m (λ e. n (or_l (eqb i k) (eqb j k) (eqb_of e))) (λ e. n (or_r (eqb i k) (eqb j k) (eqb_of e)))

-- a record at place k, and so many jobs: of the others as many are there as before
module _ (t : OpenTable) (k : ℕ) (a : Action) (n : ℕ) (still : (i : ℕ) → i ≢ k → (i < t.count) ↔ (i < n)) where
  abbrev u : OpenTable
  u = with_record t k a n

  other : (i : ℕ) → i ≢ k → record_at t.jobs i ≡ record_at u.jobs i
  other i x = sym (get_or-set_other t.jobs k i a no_job x)

  cross : (i j : ℕ) → i ≢ k → j ≢ k → interfere (present t) i j ≡ interfere (present u) i j
  cross i j x y = by_records t i j ∙ (ap₂ (crossing i j) (other i x) (other j y) ∙ sym (by_records u i j))

  bit_still : (i j : ℕ) → i ≢ k → j ≢ k → clash_bit (present t) i j ≡ clash_bit (present u) i j
  bit_still i j x y =
      same (clash_bit (present t) i j) (clash_bit (present u) i j)
      (λ h. let b = bit_of (present t) i j h in of_bit (present u) i j ((still i x).0 b.0) ((still j y).0 b.1) (subst T (cross i j x y) b.2))
      (λ h. let b = bit_of (present u) i j h in of_bit (present t) i j ((still i x).1 b.0) ((still j y).1 b.1) (subst T (sym (cross i j x y)) b.2))

  pub changed_right : Right t → Right (reclashed u k)
  changed_right r = reclashed_right u k (λ i j l m x y. kept_low t r i j l m ∙ bit_still i j x y)

-- ── one job gone ──

module _ (t : OpenTable) (k : ℕ) (l : k < t.count) (few : t.count ≤ 24) where
  moved_cases : (i : ℕ) → ((i < k) × (moved_from k i ≡ i)) ⊎ ((k ≤ i) × (moved_from k i ≡ suc i))
  moved_cases i = go (T? (ltb i k))
    where
      go : T (ltb i k) ⊎ (T (ltb i k) → ⊥) → ((i < k) × (moved_from k i ≡ i)) ⊎ ((k ≤ i) × (moved_from k i ≡ suc i))
      go (inl h) = inl (ltb→lt i k h, chosen (ltb i k) i (suc i) h)
      go (inr n) = inr (at_most i k n, unchosen (ltb i k) i (suc i) n)

  -- as many are there, and they are as different
  pub moved_there : (i : ℕ) → (moved_from k i < t.count) ↔ (i < t.count - 1)
  moved_there i = ⊎_elim (λ c. (λ h. omega (arith, c.0, c.1, l), λ h. omega (arith, c.0, c.1, l))) (λ c. (λ h. omega (arith, c.0, c.1, h), λ h. omega (arith, c.0, c.1, h))) (moved_cases i)

  moved_apart : (i j : ℕ) → moved_from k i ≡ moved_from k j → i ≡ j
  moved_apart i j e =
      ⊎_elim (λ c. ⊎_elim (λ d. omega (arith, e, c.1, d.1)) (λ d. omega (arith, e, c.0, c.1, d.0, d.1)) (moved_cases j))
      (λ c. ⊎_elim (λ d. omega (arith, e, c.0, c.1, d.0, d.1)) (λ d. omega (arith, e, c.1, d.1)) (moved_cases j)) (moved_cases i)

  moved_eqb : (i j : ℕ) → eqb (moved_from k i) (moved_from k j) ≡ eqb i j
  moved_eqb i j = same (eqb (moved_from k i) (moved_from k j)) (eqb i j) (λ h. eqb_of (moved_apart i j (eqb→eq (moved_from k i) (moved_from k j) h))) (λ h. eqb_of (ap (moved_from k) (eqb→eq i j h)))

  pub job_moved : (i : ℕ) → i < 24 → record_at (without_job t k).jobs i ≡ record_at t.jobs (moved_from k i)
  unfolding without_job
  job_moved i m = place_at no_job (λ i. record_at t.jobs (moved_from k i)) i m

  moved_cross : (i j : ℕ) → i < 24 → j < 24 → interfere (present t) (moved_from k i) (moved_from k j) ≡ interfere (present (without_job t k)) i j
  moved_cross i j m n =
      by_records t (moved_from k i) (moved_from k j)
      ∙ (ap (λ (b : Bool). not b && not (eqb (numbers (clash_of (record_masks (record_at t.jobs (moved_from k i))) (record_masks (record_at t.jobs (moved_from k j))))).kind 0)) (moved_eqb i j)
      ∙ (ap₂ (crossing i j) (sym (job_moved i m)) (sym (job_moved j n)) ∙ sym (by_records (without_job t k) i j)))

  moved_count : (without_job t k).count ≡ t.count - 1
  unfolding without_job
  moved_count = refl

  moved_bit : (i j : ℕ) → clash_bit (present t) (moved_from k i) (moved_from k j) ≡ clash_bit (present (without_job t k)) i j
  moved_bit i j =
      same (clash_bit (present t) (moved_from k i) (moved_from k j)) (clash_bit (present (without_job t k)) i j)
      (λ h. let b = bit_of (present t) (moved_from k i) (moved_from k j) h in
      let m = (moved_there i).0 b.0 in
      let n = (moved_there j).0 b.1 in
      of_bit (present (without_job t k)) i j (omega (arith, m, moved_count)) (omega (arith, n, moved_count)) (subst T (moved_cross i j (omega (arith, m, few)) (omega (arith, n, few))) b.2))
      (λ h. let b = bit_of (present (without_job t k)) i j h in
      let m : i < t.count - 1 = omega (arith, b.0, moved_count) in
      let n : j < t.count - 1 = omega (arith, b.1, moved_count) in
      of_bit (present t) (moved_from k i) (moved_from k j) ((moved_there i).1 m) ((moved_there j).1 n) (subst T (sym (moved_cross i j (omega (arith, m, few)) (omega (arith, n, few)))) b.2))

  pub without_right : Right t → Right (without_job t k)
  unfolding without_job
  without_right r = rows_same (λ i j. kept_bit t (moved_from k i) (moved_from k j)) (clash_bit (present (without_job t k))) (λ i j m n. right_bit t r few (moved_from k i) (moved_from k j) ∙ moved_bit i j)

-- ── no job ──

pub empty_right : (atoms : ℕ) → Right (empty_of atoms)
unfolding filled word_of clash_bit
empty_right atoms = refl
