-- Check 33 takes a name table exactly where each job has a name as 02 says it and no two are alike.
-- Assumes nothing.
use mathlib.Core.Path.{◌≡◌, sym, subst, ◌∙◌}
use mathlib.Core.Logic.{◌⊎◌, inl, inr, ◌≢◌, ◌↔◌}
use mathlib.Core.Bool.{not, ◌&&◌, ◌||◌}
use mathlib.Core.List.{List}
use Prim.Native.Nat.{ℕ, ◌+◌, ◌*◌, ◌≤◌, ◌<◌}
use native.Mathlib.Omega.{arith}
use native.Mathlib.Decide.{dec_lt}
use lib.Dec.{T, T_not, eqb, eqb→eq}
use lib.ListN.{length}
use Rattle.facts.specs.Least.{any}
use Rattle.facts.proofs.Bools.{T?, certain, and_l, and_r, and_of, or_cases, or_r, not_eqb, eqb_not}
use Rattle.facts.proofs.Least.{least_is, any_of, any_at}
use Rattle.facts.proofs.Lists.{get_d_past}
use Rattle.refusals.specs.Refusals.{accepted}
use Rattle.refusals.proofs.Refused.{at_pass}
use Rattle.plantext.specs.Form.{letter_at, in_name}
use Rattle.plantext.specs.Names.{name_size, name_of, name_letter, is_named, misnamed, shares_name, names_check}
use Rattle.plantext.specs.Told.{NamedBy, GoodNames}
use Rattle.plantext.proofs.Laws.{same_letters_lem, letters_same, name_in, name_behind, zero_no_name}
use Rattle.plantext.proofs.Written.{name_text, name_bytes, no_fault_at}

-- ── what the check takes ──

module _ (names : List ℕ) (n : ℕ) (checked : names_check names n accepted ≡ accepted) (long : 16 * n ≤ length names) where
  -- two jobs whose bytes are all the same would share a name
  differs : (i j : ℕ) → i < n → j < n → i ≢ j → (k : ℕ) × (k < 16) × (letter_at names (16 * i + k) ≢ letter_at names (16 * j + k))
  unfolding shares_name is_named
  differs i j l m d = go (T? (any (λ k. not (eqb (letter_at names (16 * i + k)) (letter_at names (16 * j + k)))) 16))
    where
      go : T (any (λ k. not (eqb (letter_at names (16 * i + k)) (letter_at names (16 * j + k)))) 16) ⊎ (T (any (λ k. not (eqb (letter_at names (16 * i + k)) (letter_at names (16 * j + k)))) 16) → ⊥)
          → (k : ℕ) × (k < 16) × (letter_at names (16 * i + k) ≢ letter_at names (16 * j + k))
      go (inl h) = let y = any_at (λ k. not (eqb (letter_at names (16 * i + k)) (letter_at names (16 * j + k)))) 16 h in (y.0, y.1, eqb_not _ _ y.2)
      go (inr x) = absurd (no_fault_at names n checked long j m (or_r (misnamed names j) _ (any_of (λ k. not (eqb k j) && is_named names k names (16 * j) 16) n i l
          (and_of (not (eqb i j)) _ (not_eqb i j d) (letters_same (λ k. letter_at names (16 * i + k)) (name_letter names (16 * j) 16) 16
          (λ k h. alike k h ∙ name_in names (16 * j) 16 k h))))))
        where
          alike : (k : ℕ) → k < 16 → letter_at names (16 * i + k) ≡ letter_at names (16 * j + k)
          alike k h = eqb→eq _ _ (certain (eqb (letter_at names (16 * i + k)) (letter_at names (16 * j + k))) (λ y. x (any_of (λ k. not (eqb (letter_at names (16 * i + k)) (letter_at names (16 * j + k)))) 16 k h y)))

  good : GoodNames names n
  good = record { named = λ j l. (name_of names j, record { text = name_text names n checked long j l; bytes = name_bytes names n checked long j l }); apart = differs }

-- ── and that it takes them ──

-- the letters of a name are counted to its end
size_is : (names : List ℕ) (j : ℕ) (w : List ℕ) → NamedBy names j w → name_size names j ≡ length w
unfolding name_size
size_is names j w g = sym (least_is (λ i. not (in_name (letter_at names (16 * j + i)))) 16 (length w) (record {
  within = g.text.most;
  hit = λ l. ends l;
  first = λ i l x. T_not (in_name (letter_at names (16 * j + i))) x (subst (λ (c : ℕ). T (in_name c)) (sym (g.bytes i (omega (arith, g.text.most)))) (g.text.small i l));
}))
  where
    ends : length w < 16 → T (not (in_name (letter_at names (16 * j + length w))))
    ends l = subst (λ (c : ℕ). T (not (in_name c))) (sym (g.bytes (length w) l ∙ get_d_past w (length w) 0 (omega arith))) zero_no_name

module _ (names : List ℕ) (n : ℕ) (g : GoodNames names n) where
  no_fault : (j : ℕ) → j < n → T (misnamed names j || shares_name names n j) → ⊥
  unfolding misnamed shares_name is_named
  no_fault j l h = go (or_cases (misnamed names j) (shares_name names n j) h)
    where
      w : List ℕ
      w = (g.named j l).0

      e : name_size names j ≡ length w
      e = size_is names j w (g.named j l).1

      zeros : T (eqb (name_size names j) 0) ⊎ T (not (is_named names j names (16 * j) (name_size names j))) → ⊥
      zeros (inl x) = omega (arith, eqb→eq (name_size names j) 0 x, e, (g.named j l).1.text.some)
      zeros (inr x) = T_not (is_named names j names (16 * j) (name_size names j)) x (letters_same (λ i. letter_at names (16 * j + i)) (name_letter names (16 * j) (name_size names j)) 16 (λ i m. side i m (dec_lt i (name_size names j))))
        where
          side : (i : ℕ) → i < 16 → Dec (i < name_size names j) → letter_at names (16 * j + i) ≡ name_letter names (16 * j) (name_size names j) i
          side i m (yes x) = name_in names (16 * j) (name_size names j) i x
          side i m (no x) = (g.named j l).1.bytes i m ∙ get_d_past w i 0 (omega (arith, e)) ∙ name_behind names (16 * j) (name_size names j) i (omega arith)

      go : T (misnamed names j) ⊎ T (shares_name names n j) → ⊥
      go (inl x) = zeros (or_cases (eqb (name_size names j) 0) _ x)
      go (inr x) =
          let y = any_at (λ i. not (eqb i j) && is_named names i names (16 * j) 16) n x in
          let a = g.apart y.0 j y.1 l (eqb_not y.0 j (and_l (not (eqb y.0 j)) _ y.2)) in
          a.2 (same_letters_lem (λ k. letter_at names (16 * y.0 + k)) (name_letter names (16 * j) 16) 16 (and_r (not (eqb y.0 j)) _ y.2) a.0 a.1 ∙ sym (name_in names (16 * j) 16 a.0 a.1))

  taken : names_check names n accepted ≡ accepted
  unfolding names_check
  taken = at_pass (λ j. misnamed names j || shares_name names n j) n 33 accepted (λ h. let y = any_at (λ j. misnamed names j || shares_name names n j) n h in no_fault y.0 y.1 y.2)

-- the law
pub names_exactly : (names : List ℕ) (n : ℕ) → 16 * n ≤ length names → (names_check names n accepted ≡ accepted) ↔ GoodNames names n
names_exactly names n long = ((λ checked. good names n checked long), taken names n)
