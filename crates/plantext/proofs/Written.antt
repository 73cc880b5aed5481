-- A line that was written is a line as 02 says it, and names its job.
-- Assumes nothing.
use mathlib.Core.Path.{◌≡◌, refl, sym, ap, ◌∙◌, subst}
use mathlib.Core.Logic.{inr}
use mathlib.Core.Bool.{not, ◌&&◌, ◌||◌}
use mathlib.Core.List.{List, [], ◌∷◌, ◌++◌, append_assoc}
use Prim.Native.Nat.{ℕ, zero, suc, ◌+◌, ◌*◌, ◌/◌, ◌%◌, ◌≤◌, ◌<◌}
use native.Mathlib.Nat.{div-div-eq-div-mul}
use native.Mathlib.Omega.{arith}
use native.Mathlib.Decide.{dec_lt}
use lib.Dec.{T, eqb, leb, le→leb}
use lib.ListN.{length, drop, length-drop}
use lib.Seq.{get_or-take, get_or-drop, length-take-le}
use Rattle.facts.proofs.Bools.{and_of, certain, eqb_of, not_eqb, or_l, or_r}
use Rattle.facts.proofs.Least.{lowest, found, any_of}
use Rattle.facts.proofs.Lists.{get_d_past}
use Rattle.refusals.specs.Refusals.{accepted}
use Rattle.refusals.proofs.Refused.{at_zero}
use Rattle.rules.specs.Table.{Problem, between}
use Rattle.rules.specs.Plans.{Plan}
use Rattle.lines.specs.Letters.{letters}
use Rattle.lines.specs.Lines.{decimal}
use Rattle.lines.proofs.Laws.{digit_none, digit_some}
use Rattle.plantext.specs.Form.{letter_at, is_digit, in_name, value_of, name_at, name_length}
use Rattle.plantext.specs.Names.{name_size, name_of, name_letter, is_named, misnamed, shares_name, names_check, job_named}
use Rattle.plantext.specs.Writing.{step_line}
use Rattle.plantext.specs.Told.{DigitText, PointText, NameText, LineText, LineRead}
use Rattle.plantext.proofs.Laws.{letters_most, letters_same, same_letters_lem, name_in, name_behind}

-- ── numbers ──

a_digit : (a : ℕ) → a < 10 → T (is_digit (48 + a))
unfolding is_digit between
a_digit a l = and_of (leb 48 (48 + a)) (leb (48 + a) 57) (le→leb 48 (48 + a) (omega arith)) (le→leb (48 + a) 57 (omega arith))

-- one digit before others
digit_before : (c : ℕ) (w : List ℕ) → T (is_digit c) → ((i : ℕ) → i < length w → T (is_digit (letter_at w i))) → (i : ℕ) → i < length (c ∷ w) → T (is_digit (letter_at (c ∷ w) i))
digit_before c w h all zero l = h
digit_before c w h all (suc i) l = all i (omega arith)

no_digit : (i : ℕ) → i < length {A = ℕ} [] → T (is_digit (letter_at [] i))
no_digit i l = absurd (omega arith)

hundreds : (n : ℕ) → n / 10 / 10 ≡ n / 100
hundreds n = div-div-eq-div-mul n 10 10

thousands : (n : ℕ) → n / 10 / 10 / 10 ≡ n / 1000
thousands n = ap (λ (m : ℕ). m / 10) (hundreds n) ∙ div-div-eq-div-mul n 100 10

three_digits : (n : ℕ) → n < 1000 → 10 * (10 * (n / 100 % 10) + n / 10 % 10) + n % 10 ≡ n
three_digits n l =
    let a : n ≡ 10 * (n / 10) + n % 10 = omega arith in
    let b : n / 10 ≡ 10 * (n / 100) + n / 10 % 10 = omega (arith, hundreds n) in
    let c : n / 100 % 10 ≡ n / 100 = omega arith in
    omega (arith, a, b, c)

four_digits : (n : ℕ) → n < 10000 → 10 * (10 * (10 * (n / 1000 % 10) + n / 100 % 10) + n / 10 % 10) + n % 10 ≡ n
four_digits n l =
    let a : n ≡ 10 * (n / 10) + n % 10 = omega arith in
    let b : n / 10 ≡ 10 * (n / 100) + n / 10 % 10 = omega (arith, hundreds n) in
    let c : n / 100 ≡ 10 * (n / 1000) + n / 100 % 10 = omega (arith, ap (λ (m : ℕ). m / 10) (hundreds n), thousands n) in
    let d : n / 1000 % 10 ≡ n / 1000 = omega arith in
    omega (arith, a, b, c, d)

counts_three : (x y z : ℕ) → value_of ((48 + x) ∷ (48 + y) ∷ (48 + z) ∷ []) 0 3 ≡ 10 * (10 * x + y) + z
unfolding value_of
counts_three x y z = omega arith

counts_four : (w x y z : ℕ) → value_of ((48 + w) ∷ (48 + x) ∷ (48 + y) ∷ (48 + z) ∷ []) 0 4 ≡ 10 * (10 * (10 * w + x) + y) + z
unfolding value_of
counts_four w x y z = omega arith

-- a number below 10,000 is 1 to 4 digits
pub decimal_text : (n : ℕ) → n < 10000 → DigitText n (decimal n)
unfolding decimal value_of
decimal_text n l = go (dec_lt n 10) (dec_lt n 100) (dec_lt n 1000)
  where
    go : Dec (n < 10) → Dec (n < 100) → Dec (n < 1000) → DigitText n (decimal n)
    go (yes h) x y =
        rw (digit_none n 10000 (omega arith), digit_none n 1000 (omega arith), digit_none n 100 (omega arith), digit_none n 10 (omega arith))
        (record { some = omega arith; most = omega arith; digits = digit_before (48 + n % 10) [] (a_digit (n % 10) (omega arith)) no_digit; value = omega arith })
    go (no g) (yes h) y =
        rw (digit_none n 10000 (omega arith), digit_none n 1000 (omega arith), digit_none n 100 (omega arith), digit_some n 10 (omega arith))
        (record {
          some = omega arith;
          most = omega arith;
          digits = digit_before (48 + n / 10 % 10) ((48 + n % 10) ∷ []) (a_digit (n / 10 % 10) (omega arith)) (digit_before (48 + n % 10) [] (a_digit (n % 10) (omega arith)) no_digit);
          value = omega arith;
        })
    go (no f) (no g) (yes h) =
        rw (digit_none n 10000 (omega arith), digit_none n 1000 (omega arith), digit_some n 100 (omega arith), digit_some n 10 (omega arith))
        (record {
          some = omega arith;
          most = omega arith;
          digits = digit_before (48 + n / 100 % 10) ((48 + n / 10 % 10) ∷ (48 + n % 10) ∷ []) (a_digit (n / 100 % 10) (omega arith)) (digit_before (48 + n / 10 % 10) ((48 + n % 10) ∷ []) (a_digit (n / 10 % 10) (omega arith)) (digit_before (48 + n % 10) [] (a_digit (n % 10) (omega arith)) no_digit));
          value = counts_three (n / 100 % 10) (n / 10 % 10) (n % 10) ∙ three_digits n h;
        })
    go (no f) (no g) (no h) =
        rw (digit_none n 10000 (omega arith), digit_some n 1000 (omega arith), digit_some n 100 (omega arith), digit_some n 10 (omega arith))
        (record {
          some = omega arith;
          most = omega arith;
          digits = digit_before (48 + n / 1000 % 10) ((48 + n / 100 % 10) ∷ (48 + n / 10 % 10) ∷ (48 + n % 10) ∷ []) (a_digit (n / 1000 % 10) (omega arith))
              (digit_before (48 + n / 100 % 10) ((48 + n / 10 % 10) ∷ (48 + n % 10) ∷ []) (a_digit (n / 100 % 10) (omega arith)) (digit_before (48 + n / 10 % 10) ((48 + n % 10) ∷ []) (a_digit (n / 10 % 10) (omega arith)) (digit_before (48 + n % 10) [] (a_digit (n % 10) (omega arith)) no_digit)));
          value = counts_four (n / 1000 % 10) (n / 100 % 10) (n / 10 % 10) (n % 10) ∙ four_digits n l;
        })

-- with three zeros behind it
three_zeros : (n : ℕ) → n < 10000 → PointText n (decimal n ++ letters ".000")
three_zeros n l = record { front = decimal n; zeros = 2; whole = decimal_text n l; is = refl }

-- ── names ──

module _ (names : List ℕ) (n : ℕ) (checked : names_check names n accepted ≡ accepted) (long : 16 * n ≤ length names) (j : ℕ) (l : j < n) where
  pub no_fault_at : T (misnamed names j || shares_name names n j) → ⊥
  unfolding names_check
  no_fault_at h = (at_zero (λ i. misnamed names i || shares_name names n i) n 33 accepted (omega arith) checked).0 (any_of (λ i. misnamed names i || shares_name names n i) n j l h)

  size_some : 1 ≤ name_size names j
  unfolding misnamed
  size_some = go (dec_lt (name_size names j) 1)
    where
      go : Dec (name_size names j < 1) → 1 ≤ name_size names j
      go (yes z) = absurd (no_fault_at (or_l (misnamed names j) _ (or_l (eqb (name_size names j) 0) _ (eqb_of {m = name_size names j} {n = 0} (omega arith)))))
      go (no m) = omega arith

  size_most : name_size names j ≤ 16
  unfolding name_size
  size_most = letters_most in_name names (16 * j) 16

  -- zeros alone stand behind the name
  own_letters : (i : ℕ) → i < 16 → letter_at names (16 * j + i) ≡ name_letter names (16 * j) (name_size names j) i
  unfolding misnamed is_named
  own_letters = same_letters_lem (λ i. letter_at names (16 * j + i)) (name_letter names (16 * j) (name_size names j)) 16
      (certain (is_named names j names (16 * j) (name_size names j)) (λ h. no_fault_at (or_l (misnamed names j) _ (or_r (eqb (name_size names j) 0) _ h))))

  name_length_lem : length (name_of names j) ≡ name_size names j
  unfolding name_of
  name_length_lem = length-take-le (name_size names j) (drop (16 * j) names) (omega (arith, length-drop (16 * j) names, size_most))

  name_letters : (i : ℕ) → i < name_size names j → letter_at (name_of names j) i ≡ letter_at names (16 * j + i)
  unfolding name_of
  name_letters i h = get_or-take (name_size names j) (drop (16 * j) names) i 0 h ∙ get_or-drop (16 * j) names i 0

  pub name_text : NameText (name_of names j)
  unfolding name_size
  name_text = record {
    some = omega (arith, name_length_lem, size_some);
    most = omega (arith, name_length_lem, size_most);
    small = λ i h. let m : i < name_size names j = omega (arith, name_length_lem) in
        subst (λ (c : ℕ). T (in_name c)) (sym (name_letters i m)) (certain (in_name (letter_at names (16 * j + i))) ((lowest (λ k. not (in_name (letter_at names (16 * j + k)))) 16).first i m));
  }

  -- its bytes are the name and zeros
  pub name_bytes : (i : ℕ) → i < 16 → letter_at names (16 * j + i) ≡ letter_at (name_of names j) i
  name_bytes i h = go (dec_lt i (name_size names j))
    where
      go : Dec (i < name_size names j) → letter_at names (16 * j + i) ≡ letter_at (name_of names j) i
      go (yes m) = sym (name_letters i m)
      go (no m) = own_letters i h ∙ sym (name_behind names (16 * j) (name_size names j) i (omega arith)) ∙ sym (get_d_past (name_of names j) i 0 (omega (arith, name_length_lem)))

  -- a line with the name names the job
  module _ (text : List ℕ) (at t d end : ℕ) (r : LineRead text at t (name_of names j) d end) where
    line_letters : (i : ℕ) → i < 16 → letter_at names (16 * j + i) ≡ name_letter text (name_at text at) (name_length text at) i
    line_letters i h = go (dec_lt i (name_size names j))
      where
        go : Dec (i < name_size names j) → letter_at names (16 * j + i) ≡ name_letter text (name_at text at) (name_length text at) i
        go (yes m) = sym (name_letters i m) ∙ sym (r.letters i (omega (arith, name_length_lem))) ∙ name_in text (name_at text at) (name_length text at) i (omega (arith, r.long, name_length_lem))
        go (no m) = own_letters i h ∙ sym (name_behind names (16 * j) (name_size names j) i (omega arith)) ∙ name_behind text (name_at text at) (name_length text at) i (omega (arith, r.long, name_length_lem))

    pub job_found : job_named names n text at ≡ j
    unfolding job_named is_named shares_name
    job_found = sym (found (λ i. is_named names i text (name_at text at) (name_length text at)) n j l
        (letters_same (λ i. letter_at names (16 * j + i)) (name_letter text (name_at text at) (name_length text at)) 16 line_letters)
        (λ i h x. no_fault_at (or_r (misnamed names j) _ (any_of (λ k. not (eqb k j) && is_named names k names (16 * j) 16) n i (omega arith)
        (and_of (not (eqb i j)) _ (not_eqb i j (λ e. omega arith)) (letters_same (λ k. letter_at names (16 * i + k)) (name_letter names (16 * j) 16) 16
        (λ k m. same_letters_lem (λ k. letter_at names (16 * i + k)) (name_letter text (name_at text at) (name_length text at)) 16 x k m ∙ sym (line_letters k m) ∙ name_in names (16 * j) 16 k m)))))))

-- ── lines ──

pub step_text : (names : List ℕ) (P : Problem) (s : Plan) (j : ℕ) → NameText (name_of names j) → s j < 10000 → P.duration j < 10000 → LineText (s j) (name_of names j) (P.duration j) (step_line names P s j)
unfolding step_line
step_text names P s j n l m = record {
  start = decimal (s j) ++ letters ".000";
  duration = decimal (P.duration j) ++ letters ".000";
  starts = inr (three_zeros (s j) l);
  named = n;
  lasts = inr (three_zeros (P.duration j) m);
  is = ap (λ (w : List ℕ). decimal (s j) ++ (letters ".000: (" ++ (name_of names j ++ (letters ") [" ++ w)))) (sym (append_assoc (decimal (P.duration j)) (letters ".000") (letters "]\n")))
      ∙ sym (append_assoc (decimal (s j)) (letters ".000") _);
}

-- a line begins with a digit
pub line_starts : (names : List ℕ) (P : Problem) (s : Plan) (j : ℕ) → s j < 10000 → (0 < length (step_line names P s j)) × (letter_at (step_line names P s j) 0 ≡ 0 → ⊥)
unfolding step_line is_digit between
line_starts names P s j l = go (decimal (s j)) (decimal_text (s j) l)
  where
    go : (w : List ℕ) → DigitText (s j) w → (0 < length (w ++ (letters ".000: (" ++ (name_of names j ++ (letters ") [" ++ (decimal (P.duration j) ++ letters ".000]\n")))))) × (letter_at (w ++ (letters ".000: (" ++ (name_of names j ++ (letters ") [" ++ (decimal (P.duration j) ++ letters ".000]\n"))))) 0 ≡ 0 → ⊥)
    go [] d = absurd (omega (arith, d.some))
    go (c ∷ w) d = (omega arith, λ e. subst (λ (x : ℕ). T (is_digit x)) e (d.digits 0 (omega arith)))
