-- The rows of an open table: the bits of one job worked out anew, and a job's row and column taken out.
-- Assumes nothing.
use mathlib.Core.Path.{◌≡◌, refl, sym, ap, ap₂, subst, ◌∙◌}
use mathlib.Core.Logic.{◌⊎◌, inl, inr, ⊎_elim}
use mathlib.Core.Bool.{Bool, true, false, ◌&&◌, ◌||◌, cond}
use mathlib.Core.List.{List}
use Prim.Native.Nat.{ℕ, ◌-◌, ◌≤◌, ◌<◌}
use native.Mathlib.Omega.{arith}
use lib.Dec.{T, eqb, ltb, eqb→eq, lt→ltb}
use lib.ListN.{length, get_or, replicate, get_or-eq_default}
use Rattle.facts.specs.Facts.{has}
use Rattle.readings.specs.Opening.{word_of}
use Rattle.facts.proofs.Sets.{has_zero}
use Rattle.facts.proofs.Bools.{T?, same, and_l, and_r, and_of, or_l, or_r, or_cases, chosen, unchosen}
use Rattle.rules.specs.Table.{Problem}
use Rattle.rules.specs.Clashes.{interfere}
use Rattle.rules.proofs.Clashing.{flip}
use Rattle.tables.specs.declared.Loaded.{Loaded}
use Rattle.tables.specs.declared.Action.{Action}
use Rattle.tables.proofs.Lent.{filled_same}
use Rattle.opentable.specs.declared.OpenTable.{OpenTable}
use Rattle.opentable.specs.Open.{jobs_of, ask_of, present, places, bit_rows, kept_bit, clash_bit, moved_from, reclashed, without_job}
use Rattle.opentable.specs.Steps.{Clashing, moved_jobs}
use Rattle.opentable.proofs.Given.{word_bit, word_is, word_same}

-- ── the bits of job k ──

-- a table of the same atoms
abbrev with_rows : OpenTable → ℕ → List Action → List ℕ → OpenTable
with_rows t count jobs rows = record { atoms = t.atoms; count = count; jobs = jobs; rows = rows }

-- the word of job k is its row, and of every other row its bit k
module _ (t : OpenTable) (k w : ℕ) (rows : List ℕ) (l : k < t.count) (m : t.count ≤ 24) (c : Clashing (jobs_of t) k w) where
  abbrev P : Problem
  P = present t

  said : w ≡ word_of (λ j. ltb j t.count && interfere P k j) 32
  said = c (ask_of t (record { opening = 0; goals = 0; bound = 0 }))

  row : word_of (λ j. ltb j t.count && interfere P k j) 32 ≡ word_of (clash_bit P k) 32
  unfolding clash_bit
  row = word_same _ _ 32 (λ j n. same _ _ (and_of (ltb k t.count) (ltb j t.count && interfere P k j) (lt→ltb k t.count l)) (and_r (ltb k t.count) (ltb j t.count && interfere P k j)))

  column : (i : ℕ) → i < 24 → has w i ≡ clash_bit P i k
  unfolding clash_bit
  column i n =
      ap (λ (x : ℕ). has x i) said ∙ (word_bit (λ j. ltb j t.count && interfere P k j) 32 i (omega arith)
      ∙ same (ltb i t.count && interfere P k i) (clash_bit P i k)
      (λ h. and_of (ltb i t.count) (ltb k t.count && interfere P i k) (and_l (ltb i t.count) (interfere P k i) h) (and_of (ltb k t.count) (interfere P i k) (lt→ltb k t.count l) (flip P k i (and_r (ltb i t.count) (interfere P k i) h))))
      (λ h. and_of (ltb i t.count) (interfere P k i) (and_l (ltb i t.count) (ltb k t.count && interfere P i k) h) (flip P i k (and_r (ltb k t.count) (interfere P i k) (and_r (ltb i t.count) (ltb k t.count && interfere P i k) h)))))

  abbrev anew : ℕ → ℕ
  anew i = cond (eqb i k) w (word_of (λ j. cond (eqb j k) (has w i) (kept_bit t i j)) 32)

  abbrev wanted : ℕ → ℕ → Bool
  wanted i j = cond (eqb i k || eqb j k) (clash_bit P i j) (kept_bit t i j)

  one_row : (i : ℕ) → i < 24 → anew i ≡ word_of (wanted i) 32
  one_row i n = go (T? (eqb i k))
    where
      other : (b : Bool) (j : ℕ) → (T b → j ≡ k) → cond b (has w i) (kept_bit t i j) ≡ cond b (clash_bit P i j) (kept_bit t i j)
      other true j e = column i n ∙ ap (clash_bit P i) (sym (e tt))
      other false j e = refl

      go : T (eqb i k) ⊎ (T (eqb i k) → ⊥) → anew i ≡ word_of (wanted i) 32
      go (inl e) =
          chosen (eqb i k) w _ e ∙ (said ∙ (row ∙ word_same (clash_bit P k) (wanted i) 32 (λ j l'.
          ap (λ (x : ℕ). clash_bit P x j) (sym (eqb→eq i k e)) ∙ sym (chosen (eqb i k || eqb j k) (clash_bit P i j) (kept_bit t i j) (or_l (eqb i k) (eqb j k) e)))))
      go (inr x) =
          unchosen (eqb i k) w _ x ∙ word_same _ (wanted i) 32 (λ j l'.
          other (eqb j k) j (eqb→eq j k) ∙ ap (λ (b : Bool). cond b (clash_bit P i j) (kept_bit t i j)) (same (eqb j k) (eqb i k || eqb j k) (or_r (eqb i k) (eqb j k)) (λ y. ⊎_elim (λ z. absurd (x z)) (λ z. z) (or_cases (eqb i k) (eqb j k) y))))

  pub reclashed_so : rows ≡ places 0 anew → with_rows t t.count t.jobs rows ≡ reclashed t k
  unfolding reclashed
  reclashed_so e = ap (with_rows t t.count t.jobs) (e ∙ filled_same anew (λ i. word_of (wanted i) 32) 24 (replicate 24 0) one_row)

-- ── what stands behind the 24 rows ──

pub row_behind : (rows : List ℕ) (k n : ℕ) → length rows ≤ n → 0 ≡ word_of (λ j. has (get_or rows n 0) (moved_from k j)) 32
row_behind rows k n l =
    word_is (λ j. has (get_or rows n 0) (moved_from k j)) 32 0 (omega arith) (λ j m.
    same (has 0 j) (has (get_or rows n 0) (moved_from k j)) (λ t. absurd (has_zero j t))
    (λ t. absurd (has_zero (moved_from k j) (subst (λ (x : ℕ). T (has x (moved_from k j))) (get_or-eq_default rows 0 l) t))))

-- ── the table without job k ──

pub without_so : (t : OpenTable) (k : ℕ) (l : Loaded) (rows : List ℕ) → l ≡ moved_jobs (jobs_of t) k → rows ≡ bit_rows (λ i j. kept_bit t (moved_from k i) (moved_from k j)) → with_rows t (t.count - 1) l.jobs rows ≡ without_job t k
unfolding without_job
without_so t k l rows el er = ap₂ (λ (x : Loaded) (y : List ℕ). with_rows t (t.count - 1) x.jobs y) el er
