-- A line as 02 says it is read for what it says, wherever it stands.
-- Assumes nothing.
use mathlib.Core.Path.{◌≡◌, refl, sym, ap, ap₂, ◌∙◌, subst}
use mathlib.Core.Logic.{inl, inr}
use mathlib.Core.Bool.{Bool, not}
use mathlib.Core.List.{List, ◌∷◌, ◌++◌}
use Prim.Native.Nat.{ℕ, zero, suc, ◌+◌, ◌-◌, ◌*◌, ◌≤◌, ◌<◌}
use native.Mathlib.Nat.{add-zero, zero-add}
use native.Mathlib.Omega.{arith}
use lib.Dec.{T, T_not, not_T, leb, le→leb, lt→ltb, eqb→eq}
use lib.ListN.{length, replicate, length-append, length-replicate, get_or-replicate}
use Rattle.facts.proofs.Bools.{and_of, or_l, or_r, chosen, unchosen, eqb_of}
use Rattle.facts.proofs.Least.{found}
use Rattle.rules.specs.Table.{between}
use Rattle.bytes_le.proofs.Stands.{Stands, stands_left, stands_right}
use Rattle.lines.specs.Letters.{letters}
use Rattle.plantext.specs.Form.{letter_at, is_digit, is_zero, in_name, letters_from, word_stands, digits_end, point_at, zeros_end, number_end, number_at, value_of, value_at, name_at, name_length, name_end, duration_at, next_line, start_form, duration_form, in_form}
use Rattle.plantext.specs.Told.{DigitText, NumberText, NameText, LineText, LineRead}
use Rattle.plantext.proofs.Laws.{within_text, letters_same}

-- so many letters pass the test, and then one does not
pub letters_are : (f : ℕ → Bool) (text : List ℕ) (at most k : ℕ) → k < most → ((i : ℕ) → i < k → T (f (letter_at text (at + i)))) → (T (f (letter_at text (at + k))) → ⊥) → letters_from f text at most ≡ k
letters_are f text at most k l all end =
    sym (found (λ i. not (f (letter_at text (at + i)))) most k l (not_T (f (letter_at text (at + k))) end) (λ i h x. T_not (f (letter_at text (at + i))) x (all i h)))

-- the value of digits is theirs wherever they stand
pub value_same : (text w : List ℕ) (at k : ℕ) → k ≤ length w → Stands w at text → value_of text at k ≡ value_of w 0 k
unfolding value_of
value_same text w at zero l h = refl
value_same text w at (suc k) l h = ap₂ (λ (m n : ℕ). 10 * m + (n - 48)) (value_same text w at k (omega arith) h) (h k (omega arith) ∙ ap (letter_at w) (sym (zero-add k)))

-- what a number that stands at a place is read as
pub record NumberRead (text : List ℕ) (at n end : ℕ) : Type 0 where
  pub there : T (number_at text at)
  pub ends : number_end text at ≡ end
  pub value : value_at text at ≡ n

-- a letter that ends a number: neither a digit nor a point, and within the text
pub record Ending (c : ℕ) : Type 0 where
  pub digit : T (is_digit c) → ⊥
  pub point : c ≡ 46 → ⊥
  pub some : c ≡ 0 → ⊥

point_no_digit : T (is_digit 46) → ⊥
unfolding is_digit between
point_no_digit x = x

zero_digit : (c : ℕ) → T (is_zero c) → T (is_digit c)
unfolding is_digit is_zero between
zero_digit c x = subst (λ (k : ℕ). T (is_digit k)) (sym (eqb→eq c 48 x)) tt

zero_of : (c : ℕ) → c ≡ 48 → T (is_zero c)
unfolding is_zero
zero_of c e = eqb_of e

module _ (text : List ℕ) (at n : ℕ) where
  module _ (w : List ℕ) (d : DigitText n w) (h : Stands w at text) (e : T (is_digit (letter_at text (at + length w))) → ⊥) where
    counted : letters_from is_digit text at 5 ≡ length w
    counted = letters_are is_digit text at 5 (length w) (omega (arith, d.most)) (λ i l. subst (λ (c : ℕ). T (is_digit c)) (sym (h i l)) (d.digits i l)) e

    pub digits_end_lem : digits_end text at ≡ at + length w
    unfolding digits_end
    digits_end_lem = ap (λ (k : ℕ). at + k) counted

    pub digits_value : value_at text at ≡ n
    unfolding value_at
    digits_value = ap (value_of text at) counted ∙ value_same text w at (length w) (omega arith) h ∙ d.value

    few : T (between (at + 1) (at + 4) (digits_end text at))
    unfolding between
    few = and_of (leb (at + 1) (digits_end text at)) (leb (digits_end text at) (at + 4)) (le→leb (at + 1) (digits_end text at) (omega (arith, digits_end_lem, d.some))) (le→leb (digits_end text at) (at + 4) (omega (arith, digits_end_lem, d.most)))

  -- digits alone
  plain_read : (w : List ℕ) → DigitText n w → Stands w at text → Ending (letter_at text (at + length w)) → NumberRead text at n (at + length w)
  unfolding number_at number_end point_at
  plain_read w d h e =
      let p : T (point_at text (digits_end text at)) → ⊥ = λ x. e.point (ap (letter_at text) (sym (digits_end_lem w d h e.digit)) ∙ eqb→eq (letter_at text (digits_end text at)) 46 x) in
      record {
        there = and_of (between (at + 1) (at + 4) (digits_end text at)) _ (few w d h e.digit) (or_l (not (point_at text (digits_end text at))) _ (not_T (point_at text (digits_end text at)) p));
        ends = unchosen (point_at text (digits_end text at)) _ _ p ∙ digits_end_lem w d h e.digit;
        value = digits_value w d h e.digit;
      }

  -- with a point and zeros
  point_read : (front : List ℕ) (z : ℕ) → DigitText n front → Stands (front ++ (46 ∷ replicate (suc z) 48)) at text → Ending (letter_at text (at + length front + 1 + suc z)) → NumberRead text at n (at + length front + 1 + suc z)
  unfolding number_at number_end point_at zeros_end
  point_read front z d h e =
      let tail = stands_right front (46 ∷ replicate (suc z) 48) at text h in
      let dot : letter_at text (at + length front) ≡ 46 = ap (letter_at text) (sym (add-zero (at + length front))) ∙ tail 0 (omega arith) in
      let nodigit : T (is_digit (letter_at text (at + length front))) → ⊥ = λ x. point_no_digit (subst (λ (c : ℕ). T (is_digit c)) dot x) in
      let de = digits_end_lem front d (stands_left front (46 ∷ replicate (suc z) 48) at text h) nodigit in
      let p : T (point_at text (digits_end text at)) = eqb_of (ap (letter_at text) de ∙ dot) in
      let ze : zeros_end text (digits_end text at + 1) ≡ at + length front + 1 + suc z =
      ap (zeros_end text) (ap (λ (k : ℕ). k + 1) de)
      ∙ ap (λ (k : ℕ). at + length front + 1 + k)
      (letters_are is_zero text (at + length front + 1) (length text - (at + length front + 1)) (suc z)
      (omega (arith, within_text text (at + length front + 1 + suc z) e.some))
      (λ i l. zero_of _ (ap (letter_at text) (omega arith) ∙ tail (suc i) (omega (arith, length-replicate {A = ℕ} (suc z) 48)) ∙ get_or-replicate (suc z) i 48 0 l))
      (λ x. e.digit (zero_digit _ x))) in
      record {
        there = and_of (between (at + 1) (at + 4) (digits_end text at)) _ (few front d (stands_left front (46 ∷ replicate (suc z) 48) at text h) nodigit)
            (or_r (not (point_at text (digits_end text at))) _ (lt→ltb (digits_end text at + 1) (zeros_end text (digits_end text at + 1)) (omega (arith, de, ze))));
        ends = chosen (point_at text (digits_end text at)) _ _ p ∙ ze;
        value = digits_value front d (stands_left front (46 ∷ replicate (suc z) 48) at text h) nodigit;
      }

  pub number_read : (w : List ℕ) → NumberText n w → Stands w at text → Ending (letter_at text (at + length w)) → NumberRead text at n (at + length w)
  number_read w (inl d) h e = plain_read w d h e
  number_read w (inr p) h e =
      let long : at + length w ≡ at + length p.front + 1 + suc p.zeros = ap (λ (v : List ℕ). at + length v) p.is ∙ omega (arith, length-append p.front (46 ∷ replicate (suc p.zeros) 48), length-replicate {A = ℕ} (suc p.zeros) 48) in
      subst (NumberRead text at n) (sym long) (point_read p.front p.zeros p.whole (subst (λ (v : List ℕ). Stands v at text) p.is h) (subst (λ (i : ℕ). Ending (letter_at text i)) long e))

-- ── lines ──

word_read : (word text : List ℕ) (at : ℕ) → Stands word at text → T (word_stands word text at)
unfolding word_stands
word_read word text at h = letters_same (λ i. letter_at text (at + i)) (letter_at word) (length word) h

-- the first letter of a word that stands at a place
first_letter : (w text : List ℕ) (at : ℕ) → 0 < length w → Stands w at text → letter_at text at ≡ letter_at w 0
first_letter w text at l h = ap (letter_at text) (sym (add-zero at)) ∙ h 0 l

colon_ends : {c : ℕ} → c ≡ 58 → Ending c
unfolding is_digit between
colon_ends {c} e = record { digit = λ x. subst (λ (k : ℕ). T (is_digit k)) e x; point = λ x. omega arith; some = λ x. omega arith }

bracket_ends : {c : ℕ} → c ≡ 93 → Ending c
unfolding is_digit between
bracket_ends {c} e = record { digit = λ x. subst (λ (k : ℕ). T (is_digit k)) e x; point = λ x. omega arith; some = λ x. omega arith }

close_ends : {c : ℕ} → c ≡ 41 → T (in_name c) → ⊥
unfolding in_name is_digit between
close_ends {c} e x = subst (λ (k : ℕ). T (in_name k)) e x

module _ (text : List ℕ) (at t : ℕ) (name : List ℕ) (d : ℕ) (start duration : List ℕ) (s : NumberText t start) (n : NameText name) (l : NumberText d duration)
    (h : Stands (start ++ (letters ": (" ++ (name ++ (letters ") [" ++ (duration ++ letters "]\n"))))) at text) where
  -- where the parts stand
  abbrev p1 : ℕ
  p1 = at + length start

  abbrev p3 : ℕ
  p3 = p1 + 3 + length name

  abbrev p5 : ℕ
  p5 = p3 + 3 + length duration

  -- what stands there
  abbrev r4 : List ℕ
  r4 = duration ++ letters "]\n"

  abbrev r3 : List ℕ
  r3 = letters ") [" ++ r4

  abbrev r2 : List ℕ
  r2 = name ++ r3

  abbrev r1 : List ℕ
  r1 = letters ": (" ++ r2

  h1 : Stands r1 p1 text
  h1 = stands_right start r1 at text h

  h2 : Stands r2 (p1 + 3) text
  h2 = stands_right (letters ": (") r2 p1 text h1

  h3 : Stands r3 p3 text
  h3 = stands_right name r3 (p1 + 3) text h2

  h4 : Stands r4 (p3 + 3) text
  h4 = stands_right (letters ") [") r4 p3 text h3

  h5 : Stands (letters "]\n") p5 text
  h5 = stands_right duration (letters "]\n") (p3 + 3) text h4

  first : NumberRead text at t p1
  first = number_read text at t start s (stands_left start r1 at text h) (colon_ends (first_letter r1 text p1 (omega arith) h1))

  second : NumberRead text (p3 + 3) d p5
  second = number_read text (p3 + 3) d duration l (stands_left duration (letters "]\n") (p3 + 3) text h4) (bracket_ends (first_letter (letters "]\n") text p5 (omega arith) h5))

  name_at_lem : name_at text at ≡ p1 + 3
  unfolding name_at
  name_at_lem = ap (λ (i : ℕ). i + 3) first.ends

  name_long : name_length text at ≡ length name
  unfolding name_length
  name_long =
      ap (λ (i : ℕ). letters_from in_name text i 17) name_at_lem
      ∙ letters_are in_name text (p1 + 3) 17 (length name) (omega (arith, n.most)) (λ i m. subst (λ (c : ℕ). T (in_name c)) (sym (stands_left name r3 (p1 + 3) text h2 i m)) (n.small i m)) (close_ends (first_letter r3 text p3 (omega arith) h3))

  name_end_lem : name_end text at ≡ p3
  unfolding name_end
  name_end_lem = ap₂ (λ (i j : ℕ). i + j) name_at_lem name_long

  duration_at_lem : duration_at text at ≡ p3 + 3
  unfolding duration_at
  duration_at_lem = ap (λ (i : ℕ). i + 3) name_end_lem

  starts_so : T (start_form text at)
  unfolding start_form between
  starts_so =
      and_of (number_at text at) _ first.there
      (and_of (word_stands (letters ": (") text (number_end text at)) _ (subst (λ (i : ℕ). T (word_stands (letters ": (") text i)) (sym first.ends) (word_read (letters ": (") text p1 (stands_left (letters ": (") r2 p1 text h1)))
      (and_of (leb 1 (name_length text at)) (leb (name_length text at) 16) (le→leb 1 (name_length text at) (omega (arith, name_long, n.some))) (le→leb (name_length text at) 16 (omega (arith, name_long, n.most)))))

  lasts_so : T (duration_form text at)
  unfolding duration_form
  lasts_so =
      and_of (word_stands (letters ") [") text (name_end text at)) _ (subst (λ (i : ℕ). T (word_stands (letters ") [") text i)) (sym name_end_lem) (word_read (letters ") [") text p3 (stands_left (letters ") [") r4 p3 text h3)))
      (and_of (number_at text (duration_at text at)) _ (subst (λ (i : ℕ). T (number_at text i)) (sym duration_at_lem) second.there)
      (subst (λ (i : ℕ). T (word_stands (letters "]\n") text i)) (sym (ap (number_end text) duration_at_lem ∙ second.ends)) (word_read (letters "]\n") text p5 h5)))

  parts_read : LineRead text at t name d (p5 + 2)
  unfolding in_form next_line
  parts_read = record {
    form = and_of (start_form text at) (duration_form text at) starts_so lasts_so;
    start = first.value;
    long = name_long;
    letters = subst (λ (i : ℕ). Stands name i text) (sym name_at_lem) (stands_left name r3 (p1 + 3) text h2);
    duration = ap (value_at text) duration_at_lem ∙ second.value;
    next = ap (λ (i : ℕ). i + 2) (ap (number_end text) duration_at_lem ∙ second.ends);
  }

-- the law
pub line_read : (text : List ℕ) (at t : ℕ) (name : List ℕ) (d : ℕ) (line : List ℕ) → LineText t name d line → Stands line at text → LineRead text at t name d (at + length line)
line_read text at t name d line x h =
    let S = x.start in
    let D = x.duration in
    let long : at + length line ≡ at + length S + 3 + length name + 3 + length D + 2 =
    ap (λ (v : List ℕ). at + length v) x.is ∙ omega (
      arith,
      length-append S (letters ": (" ++ (name ++ (letters ") [" ++ (D ++ letters "]\n")))),
      length-append name (letters ") [" ++ (D ++ letters "]\n")),
      length-append D (letters "]\n"),
    ) in
    subst (LineRead text at t name d) (sym long) (parts_read text at t name d S D x.starts x.named x.lasts (subst (λ (v : List ℕ). Stands v at text) x.is h))
