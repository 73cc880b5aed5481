-- The lent bytes of supports and of pairs.
-- Assumes nothing.
use mathlib.Core.Path.{◌≡◌, refl, sym, ap, ap₂, ◌∙◌, subst}
use mathlib.Core.Bool.{Bool}
use mathlib.Core.List.{List, [], ◌∷◌, ◌++◌, append-nil, append_assoc}
use Prim.Native.Nat.{ℕ, ◌+◌, ◌*◌, ◌/◌, ◌%◌, ◌≤◌, ◌<◌}
use native.Mathlib.Omega.{arith}
use lib.Dec.{T, eqb, leb, ltb, leb→le, le→leb, ltb→lt, lt→ltb}
use lib.ListN.{length, get_or, set, length-append, get_or-append}
use lib.Seq.{get_or-append_seam}
use native.Mathlib.Numerals.{add-one}
use Rattle.facts.proofs.Bools.{same, at_most}
use Rattle.refusals.specs.Refusals.{accepted}
use Rattle.rules.specs.Table.{Problem}
use Rattle.rules.specs.Plans.{Plan, starts}
use Rattle.rules.specs.Supports.{byte_of, whose_row, support_byte}
use Rattle.rules.specs.Pairs.{joined, pair_bytes}
use Rattle.tables.specs.declared.Loaded.{Loaded}
use Rattle.tables.specs.declared.Ask.{Ask}
use Rattle.tables.specs.declared.Answer.{Answer}
use Rattle.tables.specs.Tables.{problem, answer_of, filled, written}
use Rattle.tables.specs.Steps.{Judges}
use Rattle.verdict.specs.Offered.{offered}
use Rattle.verdict.specs.Steps.{Sound, Given}
use Rattle.verdict.proofs.Accepted.{offered_checks}
use Rattle.tables.proofs.Calls.{accepts_by}
use Rattle.tables.proofs.Laws.{said, numbered, answer_no, changed_new, changed_old}
use Rattle.tables.proofs.Lent.{filled_more, filled_same}
use Rattle.bindings.specs.Bindings.{support_verdict, Supports, pair_verdict, Pairs}
use Rattle.bindings.specs.Steps.{Appends}
use Rattle.bindings.proofs.Count.{pairs_room}

-- the table is too short for 64 bytes a row exactly where it has too few whole rows
pub short_is : (n k : ℕ) → leb (n / 64) k ≡ ltb n (64 * (k + 1))
short_is n k = same _ _ (λ h. lt→ltb n (64 * (k + 1)) (omega (arith, leb→le (n / 64) k h))) (λ h. le→leb (n / 64) k (omega (arith, ltb→lt n (64 * (k + 1)) h)))

-- ── rows of 64 ──

pub support_at : (P : Problem) (bound : ℕ) (s : Plan) (b p : ℕ) → p < 64 → byte_of P bound s (whose_row (eqb b P.count) b) p ≡ support_byte P bound s (64 * b + p)
unfolding support_byte
support_at P bound s b p l =
    let row : b ≡ (64 * b + p) / 64 = omega arith in
    let fact : p ≡ (64 * b + p) % 64 = omega arith in
    ap₂ (λ (c q : ℕ). byte_of P bound s (whose_row (eqb c P.count) c) q) row fact

-- one byte more of a row, as the loop's counters say it
pub row_more : (f : ℕ → ℕ) (base p v : ℕ) (xs ys : List ℕ) → v ≡ f (base + p) → ys ≡ filled f (base + p) xs → set ys (base + p) v ≡ filled f (base + (p + 1)) xs
row_more f base p v xs ys e h =
    let n : base + p + 1 ≡ base + (p + 1) = omega arith in
    ap₂ (λ (zs : List ℕ) (x : ℕ). set zs (base + p) x) h e ∙ filled_more f (base + p) xs ∙ ap (λ (k : ℕ). filled f k xs) n

-- ── the call for supports ──

module _ (l : Loaded) (q : Ask) (s old : List ℕ) {r : Answer} (h : Judges (offered (leb (length old / 64) q.jobs) l q s accepted) (Sound (leb (length old / 64) q.jobs) l q s) r) where
  said_supports : r ≡ answer_of (support_verdict l q s old) 0 0
  said_supports = h.says ∙ ap (λ (b : Bool). answer_of (offered b l q s accepted) 0 0) (short_is (length old) q.jobs)

  pub no_supports : (r.number ≡ 0 → ⊥) → Supports l q s old old r
  no_supports n = record { says = said_supports; table = sym (changed_old (support_verdict l q s old) _ old (λ z. n (numbered 0 0 said_supports ∙ z))) }

  pub all_supports : (new : List ℕ) → r.number ≡ 0 → new ≡ filled (support_byte (problem l q) q.bound (starts s)) (64 * (q.jobs + 1)) old → Supports l q s old new r
  all_supports new z e = record {
    says = said_supports;
    table = e ∙ sym (changed_new (support_verdict l q s old) _ old (sym (numbered 0 0 said_supports) ∙ z));
  }

  pub supports_room : r.number ≡ 0 → Given q s × (64 * (q.jobs + 1) ≤ length old)
  supports_room z =
      let k = h.order z in
      let n : T (ltb (length old) (64 * (q.jobs + 1))) → ⊥ = λ x. k.room (subst T (sym (short_is (length old) q.jobs)) x) in
      ((k.clear.few, k.given), at_most (length old) (64 * (q.jobs + 1)) n)

-- ── a list written behind another ──

-- one byte more
written_one : (xs old : List ℕ) (a : ℕ) → written (xs ++ (a ∷ [])) old ≡ set (written xs old) (length xs) a
written_one xs old a =
    ap (λ (n : ℕ). filled (λ i. get_or (xs ++ (a ∷ [])) i 0) n old) (length-append xs (a ∷ [])) ∙ sym (filled_more (λ i. get_or (xs ++ (a ∷ [])) i 0) (length xs) old)
    ∙ ap₂ (λ (ys : List ℕ) (v : ℕ). set ys (length xs) v)
    (filled_same (λ i. get_or (xs ++ (a ∷ [])) i 0) (λ i. get_or xs i 0) (length xs) old (λ i l. get_or-append xs (a ∷ []) 0 i l)) (get_or-append_seam xs a [] 0)

-- a pair more
pub written_pair : (xs old : List ℕ) (a b : ℕ) → set (set (written xs old) (length xs) a) (length xs + 1) b ≡ written (xs ++ (a ∷ b ∷ [])) old
written_pair xs old a b =
    ap₂ (λ (ys : List ℕ) (n : ℕ). set ys n b) (sym (written_one xs old a)) (sym (length-append xs (a ∷ []))) ∙ sym (written_one (xs ++ (a ∷ [])) old b)
    ∙ ap (λ (ys : List ℕ). written ys old) (append_assoc xs (a ∷ []) (b ∷ []))

pub puts_none : (at : ℕ) (ys : List ℕ) → Appends [] at ys ys at
puts_none at ys = record { next = omega arith; list = λ xs old e h. h ∙ ap (λ (zs : List ℕ). written zs old) (sym (append-nil xs)) }

pub puts_pair : (at a b : ℕ) (ys : List ℕ) → Appends (a ∷ b ∷ []) at ys (set (set ys at a) (at + 1) b) (at + 2)
puts_pair at a b ys = record {
  next = refl;
  list = λ xs old e h. ap₂ (λ (zs : List ℕ) (n : ℕ). set (set zs n a) (n + 1) b) h e ∙ written_pair xs old a b;
}

-- one list behind another
pub puts_more : {ys zs before mid after : List ℕ} {at r t : ℕ} → Appends ys at before mid r → Appends zs r mid after t → Appends (ys ++ zs) at before after t
puts_more {ys} {zs} p q = record {
  next = q.next ∙ omega (arith, p.next, length-append ys zs);
  list = λ xs old e h.
      q.list (xs ++ ys) old (p.next ∙ omega (arith, length-append xs ys)) (p.list xs old e h) ∙ ap (λ (l : List ℕ). written l old) (append_assoc xs ys zs);
}

-- one entry more of a list in order, as a loop's counter says it
pub puts_next : (f : ℕ → List ℕ) (k : ℕ) {before mid after : List ℕ} {at r t : ℕ} → Appends (joined f k) at before mid r → Appends (f k) r mid after t
    → Appends (joined f (k + 1)) at before after t
unfolding joined
puts_next f k p q = rw add-one (puts_more p q)

-- ── the call for pairs ──

module _ (l : Loaded) (q : Ask) (s old : List ℕ) {r : Answer} (h : Judges (offered (ltb (length old) 552) l q s accepted) (Sound (ltb (length old) 552) l q s) r) where
  pub no_pairs : (r.number ≡ 0 → ⊥) → Pairs l q s old old r
  no_pairs n =
      let no : (pair_verdict l q s old).number ≡ 0 → ⊥ = λ z. n (numbered 0 0 h.says ∙ z) in
      record { says = h.says ∙ answer_no (pair_verdict l q s old) 0 _ 0 no; list = sym (changed_old (pair_verdict l q s old) _ old no) }

  -- the pairs of an accepted plan have room
  pub pairs_fit : r.number ≡ 0 → (length (pair_bytes (problem l q) (starts s)) ≤ 552) × (552 ≤ length old)
  pairs_fit z = let k = h.order z in (pairs_room (problem l q) (starts s) k.clear.order k.clear.few, at_most (length old) 552 k.room)

  pub all_pairs : {t : Answer} {bytes : ℕ} (new : List ℕ) → r.number ≡ 0 → Appends (pair_bytes (problem l q) (starts s)) 0 old new bytes → t ≡ answer_of accepted (bytes / 2) 0
      → Pairs l q s old new t
  unfolding filled
  all_pairs {t} {bytes} new z p e =
      let zero : (pair_verdict l q s old).number ≡ 0 = sym (numbered 0 0 h.says) ∙ z in
      let count : bytes ≡ length (pair_bytes (problem l q) (starts s)) = omega (arith, p.next) in
      let none : pair_verdict l q s old ≡ accepted = accepts_by (offered_checks (ltb (length old) 552) l q s) h.says z in
      record {
        says = e ∙ ap (λ (n : ℕ). answer_of accepted (n / 2) 0) count ∙ said (length (pair_bytes (problem l q) (starts s)) / 2) 0 none;
        list = p.list [] old refl refl ∙ sym (changed_new (pair_verdict l q s old) _ old zero);
      }
