-- What the tests of words and numbers in the code say of the checks, and what an answer says of its verdict.
-- Assumes nothing.
use mathlib.Core.Path.{◌≡◌, refl, sym, ap, ◌∙◌}
use mathlib.Core.Bool.{Bool, true, false, not, cond, ◌&&◌}
use mathlib.Core.List.{List}
use Prim.Native.Nat.{ℕ, zero, suc, ◌+◌, ◌-◌, ◌*◌, ◌/◌, ◌^◌, ◌≤◌, ◌<◌}
use native.Mathlib.Omega.{arith}
use native.Mathlib.Decide.{dec_lt}
use borrow.Author.Tests.{eq-eqb, ne_eqb, lt-leb, lt-ltb, le-ltb}
use lib.Dec.{T, eqb, leb, ltb, leb→le, le→leb, ltb→lt, lt→ltb, T_not, not_T}
use Rattle.facts.proofs.Bools.{and_r, and_of, same, decides_neb, decides_test}
use Rattle.facts.proofs.Sets.{high_and}
use Rattle.refusals.specs.Refusals.{Verdict, accepted}
use Rattle.rules.specs.Table.{between, strays}
use Rattle.refusals.proofs.Refused.{Checks, went_on}
use Rattle.rules.proofs.Checked.{strays_fact}
use Rattle.tables.specs.declared.Answer.{Answer}
use Rattle.tables.specs.Tables.{AtomCount, unmarked, answer_of, changed}

-- no fact of a word of 64 bits is at 64 or above
pub strays_none : (w : ℕ) → w < 2 ^ 64 → false ≡ strays 64 w
unfolding strays
strays_none w l = sym (lt-leb (2 ^ 64) w l)

pub strays_shr : (k w : ℕ) → not (eqb (w / 2 ^ k) 0) ≡ strays k w
strays_shr k w = decides_test (strays k w) (decides_neb (w / 2 ^ k) 0 (high_and k w)) (strays_fact k w).1 (strays_fact k w).0

pub below_one : (m d : ℕ) → d < 1 → true ≡ not (between 1 m d)
unfolding between
below_one m zero l = refl
below_one m (suc d) l = absurd (omega arith)

pub above : (m d : ℕ) → 1 ≤ d → ltb m d ≡ not (between 1 m d)
unfolding between
above m d l = same _ _ (λ h. not_T (leb 1 d && leb d m) (λ x. omega (arith, ltb→lt m d h, leb→le d m (and_r (leb 1 d) _ x))))
    (λ h. go (dec_lt m d) (T_not (leb 1 d && leb d m) h))
  where
    go : Dec (m < d) → (T (leb 1 d && leb d m) → ⊥) → T (ltb m d)
    go (yes k) n = lt→ltb m d k
    go (no k) n = absurd (n (and_of (leb 1 d) _ (le→leb 1 d l) (le→leb d m (omega arith))))

-- ── the two rules ──

-- a count below 128 is by rule 1
pub rule_1 : (n : ℕ) → n < 128 → unmarked n ≡ record { atoms = n; gap = 0 }
unfolding unmarked
rule_1 n l = simp (lt-ltb n 128 l)

-- 128 added to it, by rule 2
pub rule_2 : (n : ℕ) → unmarked (128 + n) ≡ record { atoms = n; gap = 1 }
unfolding unmarked
rule_2 n = let e : 128 + n - 128 ≡ n = omega arith in simp (le-ltb (128 + n) 128 (omega arith), e)

-- nothing of the byte is lost
pub unmarked_sum : (n : ℕ) → n ≡ (unmarked n).atoms + 128 * (unmarked n).gap
unfolding unmarked
unmarked_sum n = go (dec_lt n 128)
  where
    go : Dec (n < 128) → n ≡ (unmarked n).atoms + 128 * (unmarked n).gap
    go (yes l) = simp (lt-ltb n 128 l) (omega arith)
    go (no l) = simp (le-ltb n 128 (omega arith)) (omega arith)

-- either rule asks for a gap of at most one
pub gap_one : (n : ℕ) → (unmarked n).gap ≤ 1
unfolding unmarked
gap_one n = go (ltb n 128)
  where
    go : (b : Bool) → (cond {A = AtomCount} b (record { atoms = n; gap = 0 }) (record { atoms = n - 128; gap = 1 })).gap ≤ 1
    go true = omega arith
    go false = omega arith

-- an answer with a number other than 0 is that of a refusal
pub refusal : (n k v w : ℕ) → 0 < n → cond (eqb n 0) w v ≡ v
refusal n k v w l = ap (λ (b : Bool). cond b w v) (ne_eqb n 0 (λ e. omega arith))

-- two verdicts that are one give one answer
pub said : (yea nay : ℕ) {v w : Verdict} → v ≡ w → answer_of w yea nay ≡ answer_of v yea nay
said yea nay {v} {w} e = ap (λ (x : Verdict). answer_of x yea nay) (sym e)

-- a list of checks that says 0 accepts
pub accepts : {C : Verdict → Verdict} → Checks C → (C accepted).number ≡ 0 → C accepted ≡ accepted
accepts {C} k z = went_on C k z accepted

-- ── what an answer says of its verdict ──

-- an answer has the number of its verdict
pub numbered : {v : Verdict} {r : Answer} (yea nay : ℕ) → r ≡ answer_of v yea nay → r.number ≡ v.number
numbered yea nay e = ap (λ (x : Answer). x.number) e

-- a refusal returns the same whatever would be returned on success
pub answer_no : (v : Verdict) (yea else nay : ℕ) → (v.number ≡ 0 → ⊥) → answer_of v yea nay ≡ answer_of v else nay
answer_no v yea else nay n = simp (ne_eqb _ _ n)

-- a verdict that accepts changes lent memory, another leaves it
pub changed_new : {A : Type 0} (v : Verdict) (new old : List A) → v.number ≡ 0 → changed v new old ≡ new
changed_new v new old e = ap (λ (b : Bool). cond b new old) (eq-eqb v.number 0 e)

pub changed_old : {A : Type 0} (v : Verdict) (new old : List A) → (v.number ≡ 0 → ⊥) → changed v new old ≡ old
changed_old v new old n = ap (λ (b : Bool). cond b new old) (ne_eqb v.number 0 n)

-- ── a call that changes lent memory where its checks c accept ──

-- a refusal is told, and lent memory is as it was
pub left_so : {A : Type 0} {r : Answer} {c v : Verdict} (value : ℕ) (next old : List A) → r ≡ answer_of v 0 0 → c ≡ v → (v.number ≡ 0 → ⊥)
    → (r ≡ answer_of c value 0) × (old ≡ changed c next old)
left_so {c = c} {v = v} value next old e h n = (e ∙ answer_no v 0 value 0 n ∙ said value 0 h, sym (changed_old c next old (λ z. n (ap (λ (x : Verdict). x.number) (sym h) ∙ z))))

-- success has the value, and lent memory is changed
pub changed_so : {A : Type 0} {r : Answer} {c : Verdict} {new : List A} (value : ℕ) (next old : List A) → r ≡ answer_of accepted value 0 → c ≡ accepted → new ≡ next
    → (r ≡ answer_of c value 0) × (new ≡ changed c next old)
changed_so {A = A} value next old e h k = (e ∙ said value 0 h, k ∙ sym (ap (λ (v : Verdict). changed {A = A} v next old) h))
