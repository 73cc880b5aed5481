-- What is read as a line is a line as 02 says it.
-- Assumes nothing.
use mathlib.Core.Path.{◌≡◌, refl, sym, ap, ◌∙◌, subst}
use mathlib.Core.Logic.{◌⊎◌, inl, inr}
use mathlib.Core.Bool.{Bool, not}
use mathlib.Core.List.{List, ◌∷◌, ◌++◌}
use Prim.Native.Nat.{ℕ, zero, suc, ◌+◌, ◌-◌, ◌≤◌, ◌<◌}
use native.Mathlib.Omega.{arith}
use lib.Dec.{T, T_not, leb, ltb, leb→le, ltb→lt, eqb→eq}
use lib.ListN.{length, take, drop, replicate, length-append, length-drop, length-replicate, get_or-replicate}
use lib.Seq.{get_or-take, get_or-drop, length-take-le}
use Rattle.facts.proofs.Bools.{T?, and_l, and_r, or_cases, certain, chosen, unchosen}
use Rattle.facts.proofs.Least.{lowest}
use Rattle.rules.specs.Table.{between}
use Rattle.bytes_le.proofs.Stands.{Stands, stands_both}
use Rattle.lines.specs.Letters.{letters}
use Rattle.plantext.specs.Form.{letter_at, is_digit, is_zero, in_name, letters_from, word_stands, digits_end, point_at, zeros_end, number_end, number_at, value_of, value_at, name_at, name_length, name_end, duration_at, next_line, start_form, duration_form, in_form}
use Rattle.plantext.specs.Told.{DigitText, NumberText, NameText, LineThere}
use Rattle.plantext.proofs.Laws.{within_text, same_letters_lem}
use Rattle.plantext.proofs.Form.{value_same}

-- so many letters of a text from a place on
part : (text : List ℕ) (at k : ℕ) → List ℕ
part text at k = take k (drop at text)

module _ (text : List ℕ) (at k : ℕ) (l : at + k ≤ length text) where
  part_long : length (part text at k) ≡ k
  unfolding part
  part_long = length-take-le k (drop at text) (omega (arith, length-drop at text))

  part_stands : Stands (part text at k) at text
  unfolding part
  part_stands i h = sym (get_or-take k (drop at text) i 0 (omega (arith, part_long)) ∙ get_or-drop at text i 0)

-- the letters that are counted pass the test
counted_pass : (f : ℕ → Bool) (text : List ℕ) (at most i : ℕ) → i < letters_from f text at most → T (f (letter_at text (at + i)))
counted_pass f text at most i l = certain (f (letter_at text (at + i))) ((lowest (λ j. not (f (letter_at text (at + j)))) most).first i l)

word_stands_lem : (word text : List ℕ) (at : ℕ) → T (word_stands word text at) → Stands word at text
unfolding word_stands
word_stands_lem word text at h = same_letters_lem (λ i. letter_at text (at + i)) (letter_at word) (length word) h

-- ── numbers ──

-- a point and zeros
point_tail : (text : List ℕ) (at z : ℕ) → letter_at text at ≡ 46 → ((i : ℕ) → i < z → T (is_zero (letter_at text (at + 1 + i)))) → Stands (46 ∷ replicate z 48) at text
unfolding is_zero
point_tail text at z d f zero l = ap (letter_at text) (omega arith) ∙ d
point_tail text at z d f (suc i) l =
    let m : i < z = omega (arith, length-replicate {A = ℕ} z 48) in
    ap (letter_at text) (omega arith) ∙ eqb→eq (letter_at text (at + 1 + i)) 48 (f i m) ∙ sym (get_or-replicate z i 48 0 m)

-- the text of the number at a place
pub record NumberThere (text : List ℕ) (at n end : ℕ) : Type 0 where
  pub w : List ℕ
  pub number : NumberText n w
  pub stands : Stands w at text
  pub long : at + length w ≡ end

module _ (text : List ℕ) (at : ℕ) (h : T (number_at text at)) where
  abbrev k : ℕ
  k = letters_from is_digit text at 5

  few : (1 ≤ k) × (k ≤ 4)
  unfolding number_at between digits_end
  few =
      let b = and_l (between (at + 1) (at + 4) (digits_end text at)) _ h in
      (omega (arith, leb→le (at + 1) (at + k) (and_l (leb (at + 1) (at + k)) _ b)), omega (arith, leb→le (at + k) (at + 4) (and_r (leb (at + 1) (at + k)) _ b)))

  all_digits : at + k ≤ length text → DigitText (value_at text at) (part text at k)
  unfolding value_at
  all_digits l = record {
    some = omega (arith, part_long text at k l, few.0);
    most = omega (arith, part_long text at k l, few.1);
    digits = λ i m. subst (λ (c : ℕ). T (is_digit c)) (part_stands text at k l i m) (counted_pass is_digit text at 5 i (omega (arith, part_long text at k l)));
    value = ap (value_of (part text at k) 0) (part_long text at k l) ∙ sym (value_same text (part text at k) at k (omega (arith, part_long text at k l)) (part_stands text at k l));
  }

  pub number_there : number_end text at < length text → NumberThere text at (value_at text at) (number_end text at)
  unfolding number_end number_at digits_end zeros_end point_at
  number_there l = go (T? (point_at text (at + k)))
    where
      go : T (point_at text (at + k)) ⊎ (T (point_at text (at + k)) → ⊥) → NumberThere text at (value_at text at) (number_end text at)
      go (inr n) =
          let e : number_end text at ≡ at + k = unchosen (point_at text (at + k)) _ _ n in
          let m : at + k ≤ length text = omega (arith, e) in
          record { w = part text at k; number = inl (all_digits m); stands = part_stands text at k m; long = ap (λ (i : ℕ). at + i) (part_long text at k m) ∙ sym e }
      go (inl p) =
          let q = at + k + 1 in
          let z = letters_from is_zero text q (length text - q) in
          let e : number_end text at ≡ q + z = chosen (point_at text (at + k)) _ _ p in
          let some : q < q + z = more z (or_cases (not (point_at text (at + k))) (ltb q (q + z)) (and_r (between (at + 1) (at + 4) (at + k)) _ h)) p in
          let m : at + k ≤ length text = omega (arith, e) in
          let tail = point_tail text (at + k) z (eqb→eq (letter_at text (at + k)) 46 p) (counted_pass is_zero text q (length text - q)) in
          let y : suc (z - 1) ≡ z = omega arith in
          record {
            w = part text at k ++ (46 ∷ replicate z 48);
            number = inr (record { front = part text at k; zeros = z - 1; whole = all_digits m; is = ap (λ (i : ℕ). part text at k ++ (46 ∷ replicate i 48)) (sym y) });
            stands = stands_both (part text at k) (46 ∷ replicate z 48) at text (part_stands text at k m) (subst (λ (i : ℕ). Stands (46 ∷ replicate z 48) (at + i) text) (sym (part_long text at k m)) tail);
            long = omega (arith, e, length-append (part text at k) (46 ∷ replicate z 48), part_long text at k m, length-replicate {A = ℕ} z 48);
          }
        where
          more : (z : ℕ) → T (not (point_at text (at + k))) ⊎ T (ltb (at + k + 1) (at + k + 1 + z)) → T (point_at text (at + k)) → at + k + 1 < at + k + 1 + z
          more z (inl x) p = absurd (T_not (point_at text (at + k)) x p)
          more z (inr x) p = ltb→lt (at + k + 1) (at + k + 1 + z) x

-- ── lines ──

module _ (text : List ℕ) (at : ℕ) (h : T (in_form text at)) where
  front : T (start_form text at)
  unfolding in_form
  front = and_l (start_form text at) (duration_form text at) h

  back : T (duration_form text at)
  unfolding in_form
  back = and_r (start_form text at) (duration_form text at) h

  colon : Stands (letters ": (") (number_end text at) text
  unfolding start_form
  colon = word_stands_lem (letters ": (") text (number_end text at) (and_l (word_stands (letters ": (") text (number_end text at)) _ (and_r (number_at text at) _ front))

  close : Stands (letters ") [") (name_end text at) text
  unfolding duration_form
  close = word_stands_lem (letters ") [") text (name_end text at) (and_l (word_stands (letters ") [") text (name_end text at)) _ back)

  bracket : Stands (letters "]\n") (number_end text (duration_at text at)) text
  unfolding duration_form
  bracket = word_stands_lem (letters "]\n") text (number_end text (duration_at text at)) (and_r (number_at text (duration_at text at)) _ (and_r (word_stands (letters ") [") text (name_end text at)) _ back))

  -- a place where a word begins lies within the text
  begins : (w : List ℕ) (i : ℕ) → 0 < length w → (letter_at w 0 ≡ 0 → ⊥) → Stands w i text → i < length text
  begins w i l n s = within_text text i (λ z. n (sym (s 0 l) ∙ ap (letter_at text) (omega arith) ∙ z))

  first : NumberThere text at (value_at text at) (number_end text at)
  unfolding start_form
  first = number_there text at (and_l (number_at text at) _ front) (begins (letters ": (") (number_end text at) (omega arith) (λ z. omega arith) colon)

  second : NumberThere text (duration_at text at) (value_at text (duration_at text at)) (number_end text (duration_at text at))
  unfolding duration_form
  second =
      number_there text (duration_at text at) (and_l (number_at text (duration_at text at)) _ (and_r (word_stands (letters ") [") text (name_end text at)) _ back))
      (begins (letters "]\n") (number_end text (duration_at text at)) (omega arith) (λ z. omega arith) bracket)

  sized : T (between 1 16 (name_length text at))
  unfolding start_form
  sized = and_r (word_stands (letters ": (") text (number_end text at)) _ (and_r (number_at text at) _ front)

  within : name_at text at + name_length text at ≤ length text
  unfolding name_end
  within = let l = begins (letters ") [") (name_end text at) (omega arith) (λ z. omega arith) close in omega arith

  abbrev its_name : List ℕ
  its_name = part text (name_at text at) (name_length text at)

  name_there : NameText its_name
  unfolding between name_length
  name_there =
      let n = part_long text (name_at text at) (name_length text at) within in
      record {
        some = omega (arith, n, leb→le 1 (name_length text at) (and_l (leb 1 (name_length text at)) _ sized));
        most = omega (arith, n, leb→le (name_length text at) 16 (and_r (leb 1 (name_length text at)) _ sized));
        small = λ i m. subst (λ (c : ℕ). T (in_name c)) (part_stands text (name_at text at) (name_length text at) within i m) (counted_pass in_name text (name_at text at) 17 i (omega (arith, n)));
      }

  -- the law
  pub line_there : LineThere text at
  unfolding next_line duration_at name_end name_at
  line_there =
      let n = part_long text (name_at text at) (name_length text at) within in
      let w4 = second.w ++ letters "]\n" in
      let s4 : Stands w4 (duration_at text at) text = stands_both second.w (letters "]\n") (duration_at text at) text second.stands (subst (λ (i : ℕ). Stands (letters "]\n") i text) (sym second.long) bracket) in
      let w3 = letters ") [" ++ w4 in
      let s3 : Stands w3 (name_end text at) text = stands_both (letters ") [") w4 (name_end text at) text close s4 in
      let w2 = its_name ++ w3 in
      let s2 : Stands w2 (name_at text at) text = stands_both its_name w3 (name_at text at) text (part_stands text (name_at text at) (name_length text at) within) (subst (λ (i : ℕ). Stands w3 (name_at text at + i) text) (sym n) s3) in
      let w1 = letters ": (" ++ w2 in
      let s1 : Stands w1 (number_end text at) text = stands_both (letters ": (") w2 (number_end text at) text colon s2 in
      record {
        name = its_name;
        line = first.w ++ w1;
        is = record { start = first.w; duration = second.w; starts = first.number; named = name_there; lasts = second.number; is = refl };
        stands = stands_both first.w w1 at text first.stands (subst (λ (i : ℕ). Stands w1 i text) (sym first.long) s1);
        next = omega (arith, first.long, second.long, n, length-append first.w w1, length-append its_name w3, length-append second.w (letters "]\n"));
      }
