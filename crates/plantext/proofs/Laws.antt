-- Letters, words and numbers at a place.
-- Assumes nothing.
use mathlib.Core.Path.{◌≡◌, refl, sym, subst, ap, ◌∙◌}
use mathlib.Core.Bool.{Bool, true, false, not, ◌&&◌, ◌||◌}
use mathlib.Core.List.{List}
use Prim.Native.Nat.{ℕ, ◌+◌, ◌-◌, ◌*◌, ◌≤◌, ◌<◌, ◌^◌}
use native.Mathlib.Omega.{arith}
use native.Mathlib.Decide.{ℕ_discrete, dec_lt}
use native.Mathlib.Nat.{pow-le-pow_right, zero-add}
use native.Mathlib.Numerals.{add-one}
use lib.Dec.{T, T_not, not_T, eqb, ltb, eqb→eq, ltb→lt, lt→ltb}
use lib.ListN.{length}
use Rattle.std.specs.Prelude.{Option, Some, None, MatchOption}
use Rattle.std.specs.Bool.{MatchBool}
use Rattle.std.specs.List.{AllWithin, HoldsAt, range_with_len}
use Rattle.std.proofs.lemmas.List.FromFn.{length-range_with_len, get_or-range_with_len}
use Rattle.facts.specs.Least.{any}
use Rattle.facts.specs.Tests.{some_least}
use Rattle.facts.proofs.Bools.{same, passes, and_l, and_of, or_l, chosen, unchosen, eqb_of, not_eqb, eqb_not, test_yes, test_no}
use Rattle.facts.proofs.Least.{lowest, any_of, any_at, any_none, first_is, first_some, first_none}
use Rattle.bytes_le.proofs.Numbers.{holds_more}
use Rattle.facts.proofs.Tests.{passed, failed}
use Rattle.facts.proofs.Lists.{get_d_past}
use Rattle.refusals.proofs.Refused.{Checks, at_checks}
use Rattle.rules.specs.Table.{between}
use Rattle.plantext.specs.Form.{letter_at, is_digit, is_zero, in_name, letters_from, same_letters, digits_end, point_at, zeros_end, number_end, number_at, value_of, value_at, name_at, name_length}
use Rattle.plantext.specs.Names.{name_size, name_letter, is_named, misnamed, shares_name, names_check, job_named}

-- a letter that is not 0 stands within the text
pub within_text : (text : List ℕ) (i : ℕ) → (letter_at text i ≡ 0 → ⊥) → i < length text
within_text text i n = go (dec_lt i (length text))
  where
    go : Dec (i < length text) → i < length text
    go (yes l) = l
    go (no m) = absurd (n (get_d_past text i 0 (omega arith)))

-- one digit more
pub value_more : (text : List ℕ) (at k v d : ℕ) → v ≡ value_of text at k → d ≡ letter_at text (at + k) - 48 → 10 * v + d ≡ value_of text at (k + 1)
unfolding value_of
value_more text at k v d e f = rw (add-one k, e, f) refl

-- the letters that pass a test are no more than are looked at
pub letters_most : (f : ℕ → Bool) (text : List ℕ) (at most : ℕ) → letters_from f text at most ≤ most
letters_most f text at most = (lowest (λ i. not (f (letter_at text (at + i)))) most).within

-- ── the same letters ──

pub letters_same : (f g : ℕ → ℕ) (n : ℕ) → ((i : ℕ) → i < n → f i ≡ g i) → T (same_letters f g n)
unfolding same_letters
letters_same f g n h = not_T (any (λ i. not (eqb (f i) (g i))) n) (λ x. let y = any_at (λ i. not (eqb (f i) (g i))) n x in eqb_not (f y.0) (g y.0) y.2 (h y.0 y.1))

pub same_letters_lem : (f g : ℕ → ℕ) (n : ℕ) → T (same_letters f g n) → (i : ℕ) → i < n → f i ≡ g i
unfolding same_letters
same_letters_lem f g n h i l = go (ℕ_discrete (f i) (g i))
  where
    go : Dec (f i ≡ g i) → f i ≡ g i
    go (yes e) = e
    go (no x) = absurd (T_not (any (λ i. not (eqb (f i) (g i))) n) h (any_of (λ i. not (eqb (f i) (g i))) n i l (not_eqb (f i) (g i) x)))

-- as a search finds it: none differs, or one does
pub same_is : (f g : ℕ → ℕ) (n : ℕ) (r : Bool)
    → (let all = range_with_len 0 n in MatchBool r (AllWithin (λ x. f x ≡ g x) all 0 (length all)) ((k : ℕ) × (k < length all) × HoldsAt (λ x. f x ≡ g x → ⊥) all k)) → r ≡ same_letters f g n
same_is f g n true h = same true (same_letters f g n) (λ x. letters_same f g n (λ i l. rw (get_or-range_with_len 0 n i 0 l, zero-add) at (h i 0 (omega arith) (omega (arith, length-range_with_len 0 n))))) (λ x. tt)
same_is f g n false (k, l, h) =
    let m : k < n = omega (arith, length-range_with_len 0 n) in
    same false (same_letters f g n) (λ x. absurd x) (λ x. (rw (get_or-range_with_len 0 n k 0 m, zero-add) at (h 0)) (same_letters_lem f g n x k m))

-- ── numbers ──

pub ends_digits : (text : List ℕ) (at : ℕ) {n : ℕ} → n ≡ letters_from is_digit text at 5 → at + n ≡ digits_end text at
unfolding digits_end
ends_digits text at e = ap (λ (k : ℕ). at + k) e

pub ends_zeros : (text : List ℕ) (at : ℕ) {n : ℕ} → n ≡ letters_from is_zero text at (length text - at) → at + n ≡ zeros_end text at
unfolding zeros_end
ends_zeros text at e = ap (λ (k : ℕ). at + k) e

pub value_is : (text : List ℕ) (at : ℕ) {n v : ℕ} → n ≡ letters_from is_digit text at 5 → v ≡ value_of text at n → v ≡ value_at text at
unfolding value_at
value_is text at e f = f ∙ ap (value_of text at) e

pub point_is : (text : List ℕ) (at : ℕ) {c : ℕ} → c ≡ letter_at text at → eqb c 46 ≡ point_at text at
unfolding point_at
point_is text at e = ap (λ (x : ℕ). eqb x 46) e

pub point_within : (text : List ℕ) (at : ℕ) {c : ℕ} → c ≡ letter_at text at → eqb c 46 ≡ true → at < length text
point_within text at {c} e h = within_text text at (λ z. omega (arith, eqb→eq c 46 (test_yes refl h)))

-- behind the digits, or behind the zeros
pub end_point : (text : List ℕ) (at : ℕ) {b : Bool} {e r : ℕ} → e ≡ digits_end text at → b ≡ point_at text e → b ≡ true → r ≡ zeros_end text (e + 1) → r ≡ number_end text at
unfolding number_end
end_point text at e p t z = z ∙ ap (λ (i : ℕ). zeros_end text (i + 1)) e ∙ sym (chosen (point_at text (digits_end text at)) _ _ (test_yes (p ∙ ap (point_at text) e) t))

pub end_plain : (text : List ℕ) (at : ℕ) {b : Bool} {e : ℕ} → e ≡ digits_end text at → b ≡ point_at text e → b ≡ false → e ≡ number_end text at
unfolding number_end
end_plain text at e p t = e ∙ sym (unchosen (point_at text (digits_end text at)) _ _ (test_no (p ∙ ap (point_at text) e) t))

and_yes : (a b : Bool) → T a → (a && b) ≡ b
and_yes true b h = refl
and_yes false b h = absurd h

or_not : (a b : Bool) → T a → (not a || b) ≡ b
or_not true b h = refl
or_not false b h = absurd h

-- the parts of a number
pub number_no : (text : List ℕ) (at : ℕ) {b : Bool} {e : ℕ} → e ≡ digits_end text at → b ≡ between (at + 1) (at + 4) e → not b ≡ true → false ≡ number_at text at
unfolding number_at
number_no text at e b t = same _ _ (λ x. absurd x) (λ x. failed (b ∙ ap (between (at + 1) (at + 4)) e) t (and_l (between (at + 1) (at + 4) (digits_end text at)) _ x))

pub number_plain : (text : List ℕ) (at : ℕ) {b p : Bool} {e : ℕ} → e ≡ digits_end text at → b ≡ between (at + 1) (at + 4) e → not b ≡ false → p ≡ point_at text e → not p ≡ true → true ≡ number_at text at
unfolding number_at
number_plain text at e b t p u =
    same _ _ (λ x. and_of (between (at + 1) (at + 4) (digits_end text at)) _ (passed (b ∙ ap (between (at + 1) (at + 4)) e) t) (or_l (not (point_at text (digits_end text at))) _ (not_T (point_at text (digits_end text at)) (failed (p ∙ ap (point_at text) e) u)))) (λ x. tt)

pub number_point : (text : List ℕ) (at : ℕ) {b p : Bool} {e z : ℕ} → e ≡ digits_end text at → b ≡ between (at + 1) (at + 4) e → not b ≡ false → p ≡ point_at text e → not p ≡ false → z ≡ zeros_end text (e + 1)
    → ltb (e + 1) z ≡ number_at text at
unfolding number_at
number_point text at {b} {p} {e} {z} d f t g u h =
    let w : ltb (e + 1) z ≡ ltb (digits_end text at + 1) (zeros_end text (digits_end text at + 1)) = ap (ltb (e + 1)) h ∙ ap (λ (i : ℕ). ltb (i + 1) (zeros_end text (i + 1))) d in
    w
    ∙ sym (and_yes (between (at + 1) (at + 4) (digits_end text at)) _ (passed (f ∙ ap (between (at + 1) (at + 4)) d) t))
    ∙ ap (λ (x : Bool). between (at + 1) (at + 4) (digits_end text at) && x) (sym (or_not (point_at text (digits_end text at)) _ (passed (g ∙ ap (point_at text) d) u)))

-- ── how great a value is ──

pub value_fits : (i v d : ℕ) → v < 256 ^ i → d < 256 → 10 * v + d < 256 ^ (i + 1)
value_fits i v d l m = omega (arith, holds_more i v d l m)

pub value_small : (i v : ℕ) → i ≤ 4 → v < 256 ^ i → v < 4294967296
value_small i v l h = let m : 256 ^ i ≤ 256 ^ 4 = pow-le-pow_right (omega arith) l in omega arith

-- ── lines ──

pub name_length_is : (text : List ℕ) (at : ℕ) {p n : ℕ} → p ≡ name_at text at → n ≡ letters_from in_name text p 17 → n ≡ name_length text at
unfolding name_length
name_length_is text at e f = f ∙ ap (λ (i : ℕ). letters_from in_name text i 17) e

pub name_size_is : (names : List ℕ) (j : ℕ) {n : ℕ} → n ≡ letters_from in_name names (16 * j) 16 → n ≡ name_size names j
unfolding name_size
name_size_is names j e = e

pub name_in : (text : List ℕ) (at size i : ℕ) → i < size → letter_at text (at + i) ≡ name_letter text at size i
unfolding name_letter
name_in text at size i l = sym (chosen (ltb i size) _ _ (lt→ltb i size l))

pub name_behind : (text : List ℕ) (at size i : ℕ) → size ≤ i → 0 ≡ name_letter text at size i
unfolding name_letter
name_behind text at size i l = sym (unchosen (ltb i size) (letter_at text (at + i)) 0 (λ h. omega (arith, ltb→lt i size h)))

-- a conjunction as a function with early returns finds it
pub and_fails : {r a : Bool} (b : Bool) → r ≡ a → not r ≡ true → false ≡ (a && b)
and_fails {a = a} b e h = same false (a && b) (λ x. absurd x) (λ x. failed e h (and_l a b x))

pub and_then : {r a b c : Bool} → r ≡ a → not r ≡ false → c ≡ b → c ≡ (a && b)
and_then {a = a} {b = b} e h f = f ∙ sym (and_yes a b (passed e h))

-- ── names ──

pub misnamed_empty : (names : List ℕ) (j : ℕ) {n : ℕ} → n ≡ name_size names j → n ≡ 0 → true ≡ misnamed names j
unfolding misnamed
misnamed_empty names j e z = same true (misnamed names j) (λ x. or_l (eqb (name_size names j) 0) (not (is_named names j names (16 * j) (name_size names j))) (eqb_of (sym e ∙ z))) (λ x. tt)

pub misnamed_rest : (names : List ℕ) (j : ℕ) {n : ℕ} {r : Bool} → n ≡ name_size names j → (n ≡ 0 → ⊥) → r ≡ is_named names j names (16 * j) n → not r ≡ misnamed names j
unfolding misnamed
misnamed_rest names j {n} e x h =
    ap not (h ∙ ap (is_named names j names (16 * j)) e) ∙ sym (or_no (eqb (name_size names j) 0) (not (is_named names j names (16 * j) (name_size names j))) (λ y. x (e ∙ eqb→eq (name_size names j) 0 y)))
  where
    or_no : (a b : Bool) → (T a → ⊥) → (a || b) ≡ b
    or_no true b f = absurd (f tt)
    or_no false b f = refl

-- the job that the line names, as a search finds it, and where it finds none
pub named_some : (names : List ℕ) (n : ℕ) (text : List ℕ) (at : ℕ) {r : Option ℕ} {j : ℕ} → r ≡ some_least (λ j. is_named names j text (name_at text at) (name_length text at)) n → r ≡ Some j → (j ≡ job_named names n text at) × (j < n)
unfolding job_named
named_some names n text at e h = first_some (λ j. is_named names j text (name_at text at) (name_length text at)) n e h

pub named_none : (names : List ℕ) (n : ℕ) (text : List ℕ) (at : ℕ) {r : Option ℕ} → r ≡ some_least (λ j. is_named names j text (name_at text at) (name_length text at)) n → r ≡ None → n ≡ job_named names n text at
unfolding job_named
named_none names n text at e h = first_none (λ j. is_named names j text (name_at text at) (name_length text at)) n e h

pub other_yes : (i j : ℕ) {r b : Bool} → (i ≡ j → ⊥) → r ≡ b → r ≡ (not (eqb i j) && b)
other_yes i j {b = b} x e = e ∙ sym (and_yes (not (eqb i j)) b (not_eqb i j x))

pub other_no : (i j : ℕ) (b : Bool) → i ≡ j → not (eqb i j) ≡ (not (eqb i j) && b)
other_no i j b e = same (not (eqb i j)) (not (eqb i j) && b) (λ x. absurd (eqb_not i j x e)) (and_l (not (eqb i j)) b)

-- check 33 is a list of checks
pub names_checks : (names : List ℕ) (n : ℕ) → Checks (names_check names n)
unfolding names_check
names_checks names n = at_checks (λ j. misnamed names j || shares_name names n j) n 33 (omega arith)

-- no name has a zero
pub zero_no_name : T (not (in_name 0))
unfolding in_name is_digit between
zero_no_name = tt
