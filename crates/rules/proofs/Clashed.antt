-- What is said of two jobs is so, and the second number of 12 is the fact of the first pair.
-- Assumes nothing.
use mathlib.Core.Path.{◌≡◌, refl, sym, ap, ◌∙◌}
use mathlib.Core.Logic.{◌≢◌}
use mathlib.Core.Bool.{Bool, true, false, ◌&&◌, cond}
use Prim.Native.Nat.{ℕ, ◌<◌}
use native.Mathlib.Omega.{arith}
use lib.Dec.{T, ltb, ltb→lt}
use Rattle.facts.specs.Facts.{has}
use Rattle.facts.specs.Least.{least, any}
use Rattle.facts.proofs.Bools.{and_l, and_r, and_of, or_l}
use Rattle.facts.proofs.Least.{Lowest, lowest, least_is, any_of, least_hit}
use Rattle.refusals.specs.Refusals.{Verdict, accepted, refused, refused_for, refuse_for, refuse_at}
use Rattle.rules.specs.declared.Clash.{Clash}
use Rattle.rules.specs.declared.Clash.TheVariants.{None, Condition, Addition}
use Rattle.rules.specs.Table.{Problem}
use Rattle.rules.specs.Clashes.{Masks, spoils, on_condition, on_addition, clash_of, numbers, clash_in}
use Rattle.rules.specs.Plans.{Plan}
use Rattle.rules.specs.Verdicts.{late, early, overlap, overlap_above, clashes, clash_fact, unready, missing, plan_checks}

module _ (a b : Masks) where
  -- no fact of a kind is concerned
  abbrev pub Spared : (Masks → Masks → ℕ → Bool) → Type 0
  Spared on = (p : ℕ) → p < 64 → T (on a b p) → ⊥

  -- the lowest fact of a kind that is concerned
  abbrev pub Concerned : (Masks → Masks → ℕ → Bool) → ℕ → Type 0
  Concerned on p = (p < 64) × T (on a b p) × Lowest (on a b) 64 p

  -- what each answer says of the two jobs
  abbrev pub Meant : Clash → Type 0
  Meant None = Spared on_condition × Spared on_addition
  Meant (Condition p) = Concerned on_condition p
  Meant (Addition p) = Spared on_condition × Concerned on_addition p

  pub clash_true : Meant (clash_of a b)
  unfolding clash_of
  clash_true = go (any (on_condition a b) 64) (any (on_addition a b) 64) (first on_condition) (first on_addition) (any_of (on_condition a b) 64) (any_of (on_addition a b) 64)
    where
      first : (on : Masks → Masks → ℕ → Bool) → T (any (on a b) 64) → Concerned on (least (on a b) 64)
      first on h = let y = least_hit (on a b) 64 h in (y.0, y.1, lowest (on a b) 64)

      go : (c d : Bool) {p q : ℕ} → (T c → Concerned on_condition p) → (T d → Concerned on_addition q)
          → ((r : ℕ) → r < 64 → T (on_condition a b r) → T c) → ((r : ℕ) → r < 64 → T (on_addition a b r) → T d) → Meant (cond c (Condition p) (cond d (Addition q) None))
      go true d f g x y = f tt
      go false true f g x y = (x, g tt)
      go false false f g x y = (x, y)

-- two answers that are so of the same jobs are one
pub clash_only : (a b : Masks) (c d : Clash) → Meant a b c → Meant a b d → c ≡ d
clash_only a b None None x y = refl
clash_only a b None (Condition q) x y = absurd (x.0 q y.0 y.1)
clash_only a b None (Addition q) x y = absurd (x.1 q y.1.0 y.1.1)
clash_only a b (Condition p) None x y = absurd (y.0 p x.0 x.1)
clash_only a b (Condition p) (Condition q) x y = let e : p ≡ q = least_is (on_condition a b) 64 p x.2 ∙ sym (least_is (on_condition a b) 64 q y.2) in rw e
clash_only a b (Condition p) (Addition q) x y = absurd (y.0 p x.0 x.1)
clash_only a b (Addition p) None x y = absurd (y.1 p x.1.0 x.1.1)
clash_only a b (Addition p) (Condition q) x y = absurd (x.0 q y.0 y.1)
clash_only a b (Addition p) (Addition q) x y = let e : p ≡ q = least_is (on_addition a b) 64 p x.1.2 ∙ sym (least_is (on_addition a b) 64 q y.1.2) in rw e

-- two jobs with one record that deletes its own condition clash over it or a lower one
pub clash_itself : (a : Masks) (p : ℕ) → p < 64 → T (has a.deletions p) → T (has a.conditions p) → (q : ℕ) × (clash_of a a ≡ Condition q)
unfolding spoils
clash_itself a p l d c = go (clash_of a a) refl (clash_true a a)
  where
    hit : T (on_condition a a p)
    hit = or_l (has a.deletions p && has a.conditions p) _ (and_of (has a.deletions p) _ d c)

    go : (k : Clash) → clash_of a a ≡ k → Meant a a k → (q : ℕ) × (clash_of a a ≡ Condition q)
    go None e m = absurd (m.0 p l hit)
    go (Condition q) e m = (q, e)
    go (Addition q) e m = absurd (m.0 p l hit)

-- ── refusal 12 ──

-- the fact of 12 at job i is that of its clash with the lowest job above it that it overlaps
pub second_true : (P : Problem) (s : Plan) (i : ℕ) → T (clashes P s i)
    → (j : ℕ) × (i < j) × (j < P.count) × T (overlap P s i j) × Lowest (overlap_above P s i) P.count j × (clash_fact P s i ≡ (numbers (clash_in P i j)).fact)
unfolding clash_fact clashes
second_true P s i h =
    let y = least_hit (overlap_above P s i) P.count h in
    let j = least (overlap_above P s i) P.count in
    let o : T (overlap P s i j) = and_r (ltb i j) _ y.1 in
    (j, ltb→lt i j (and_l (ltb i j) _ y.1), y.0, o, lowest (overlap_above P s i) P.count, refl)

-- a check with another number is passed where the list says 12
passed_by : (f : ℕ → Bool) (m n : ℕ) (v : Verdict) → n ≢ 12 → (refuse_at f m n v).number ≡ 12 → refuse_at f m n v ≡ v
unfolding refuse_at refuse_for
passed_by f m n v ne h = go (any f m) h
  where
    go : (b : Bool) → (cond b (refused n (least f m)) v).number ≡ 12 → cond b (refused n (least f m)) v ≡ v
    go true h = absurd (ne h)
    go false h = refl

-- so the list behind it says 12
then_by : (f : ℕ → Bool) (m n : ℕ) (v : Verdict) → n ≢ 12 → (refuse_at f m n v).number ≡ 12 → v.number ≡ 12
then_by f m n v ne h = ap (λ (w : Verdict). w.number) (sym (passed_by f m n v ne h)) ∙ h

-- the check of 12 itself, where the list behind it does not say 12
at_twelve : (f : ℕ → Bool) (x : ℕ → ℕ) (m : ℕ) (v : Verdict) → (v.number ≡ 12 → ⊥) → (refuse_for f x m 12 v).number ≡ 12
    → (r : ℕ) × (r < m) × T (f r) × (refuse_for f x m 12 v ≡ refused_for 12 (x r) r)
unfolding refuse_for
at_twelve f x m v ne h = go (any f m) (least_hit f m) h
  where
    go : (b : Bool) → (T b → (least f m < m) × T (f (least f m))) → (cond b (refused_for 12 (x (least f m)) (least f m)) v).number ≡ 12
        → (r : ℕ) × (r < m) × T (f r) × (cond b (refused_for 12 (x (least f m)) (least f m)) v ≡ refused_for 12 (x r) r)
    go true k h = (least f m, (k tt).0, (k tt).1, refl)
    go false k h = absurd (ne h)

-- where the verdict is 12, the job at its place clashes, and the second number is the fact
pub twelve : (P : Problem) (bound : ℕ) (s : Plan) → (plan_checks P bound s accepted).number ≡ 12
    → (i : ℕ) × (i < P.count) × T (clashes P s i) × (plan_checks P bound s accepted ≡ refused_for 12 (clash_fact P s i) i)
unfolding plan_checks
twelve P bound s h =
    let h1 = then_by (late P bound s) P.count 11 _ (omega arith) h in
    let e = passed_by (late P bound s) P.count 11 _ (omega arith) h ∙ passed_by (early P s) P.count 21 _ (omega arith) h1 in
    let y = at_twelve (clashes P s) (clash_fact P s) P.count _ behind (then_by (early P s) P.count 21 _ (omega arith) h1) in
    (y.0, y.1, y.2, e ∙ y.3)
  where
    behind : (refuse_at (unready P s) P.count 13 (refuse_at (missing P bound s) 64 14 accepted)).number ≡ 12 → ⊥
    behind r =
        let z : ◌≡◌ {A = ℕ} 0 12 = then_by (missing P bound s) 64 14 accepted (omega arith) (then_by (unready P s) P.count 13 _ (omega arith) r) in
        omega arith
