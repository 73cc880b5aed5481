-- Behind the first round there are at most as many rounds as jobs: each brings one job at least to its estimate.
-- Assumes nothing.
use mathlib.Core.Path.{◌≡◌}
use mathlib.Core.Logic.{◌⊎◌, inl, inr}
use mathlib.Core.Bool.{Bool, cond, ◌&&◌}
use mathlib.Core.List.{List}
use Prim.Native.Nat.{ℕ, zero, suc, ◌+◌, ◌*◌, ◌≤◌, ◌<◌}
use native.Mathlib.Nat.{mul-one, suc-mul, mul-le-mul_right}
use native.Mathlib.Omega.{arith}
use lib.Dec.{T, ltb, ltb→lt, lt→ltb}
use Rattle.facts.specs.Facts.{has}
use Rattle.facts.specs.Least.{any}
use Rattle.facts.specs.Words.{Word}
use Rattle.facts.proofs.Bools.{T?, and_l, and_r, and_of, at_most}
use Rattle.facts.proofs.Least.{any_of, any_at}
use Rattle.rules.specs.Table.{Problem}
use Rattle.rules.specs.Premises.{InOrder}
use Rattle.rules.specs.Estimates.{dearest, Estimates}
use Rattle.rules.specs.Sums.{sum}
use Rattle.rules.proofs.Sums.{sum_le, sum_of, sum_more, cond_yes, cond_no, under, under_le, under_self, under_in, under_mono}
use Rattle.rules.proofs.Early.{job_within, fact_within, dearest_mono, dearest_cap, estimates_exist}
use Rattle.entries.specs.Entries.{entry}
use Rattle.estimates.specs.Rounds.{NextRound, due, AfterRound}
use Rattle.estimates.proofs.Laws.{at_most_1, High, Standing, standing_next, still}

ones_most : (f : ℕ → ℕ) (n : ℕ) → ((i : ℕ) → i < n → f i ≤ 1) → sum f n ≤ n
ones_most f n h = omega (arith, sum_le f (λ _. 1) n h, sum_of 1 n, mul-one n)

module _ (P : Problem) (ok : InOrder P) (solution : ℕ → ℕ) (x : Estimates P solution) where
  -- no number is below the solution
  abbrev Above : (ℕ → ℕ) → Type 0
  Above est = (i : ℕ) → i < P.count → solution i ≤ est i

  -- how many jobs are above it
  abbrev left : (ℕ → ℕ) → ℕ
  left est = sum (λ i. under solution (λ _. 1) (est i) i) P.count

  abbrev next : (ℕ → ℕ) → ℕ → ℕ
  next est i = dearest P est i 64

  above_next : (est : ℕ → ℕ) → Above est → Above (next est)
  above_next est a i l = omega (arith, x i l, dearest_mono P solution est i 64 a)

  -- of the jobs that are above one has the least estimate
  soonest : (est : ℕ → ℕ) (k i : ℕ) → solution i < k → i < P.count → solution i < est i → (j : ℕ) × (j < P.count) × (solution j < est j) × ((a : ℕ) → a < P.count → solution a < solution j → est a ≤ solution a)
  soonest est zero i m l w = absurd (omega arith)
  soonest est (suc k) i m l w = go (T? (any sooner P.count)) (λ a. soonest est k a)
    where
      sooner : ℕ → Bool
      sooner a = ltb (solution a) (solution i) && ltb (solution a) (est a)

      go : T (any sooner P.count) ⊎ (T (any sooner P.count) → ⊥)
          → ((a : ℕ) → solution a < k → a < P.count → solution a < est a → (j : ℕ) × (j < P.count) × (solution j < est j) × ((b : ℕ) → b < P.count → solution b < solution j → est b ≤ solution b))
          → (j : ℕ) × (j < P.count) × (solution j < est j) × ((b : ℕ) → b < P.count → solution b < solution j → est b ≤ solution b)
      go (inl y) r =
          let z = any_at sooner P.count y in
          r z.0 (omega (arith, ltb→lt (solution z.0) (solution i) (and_l (ltb (solution z.0) (solution i)) _ z.2))) z.1 (ltb→lt (solution z.0) (est z.0) (and_r (ltb (solution z.0) (solution i)) _ z.2))
      go (inr n) r = (i, l, w, λ b q s. at_most (solution b) (est b) (λ t. n (any_of sooner P.count b q (and_of (ltb (solution b) (solution i)) _ (lt→ltb (solution b) (solution i) s) t))))

  -- a round brings that one to it
  falls : (est : ℕ → ℕ) → Above est → High P est → ((i : ℕ) → i < P.count → est i ≡ solution i) ⊎ (left (next est) + 1 ≤ left est)
  falls est a h = go (T? (any (λ i. ltb (solution i) (est i)) P.count))
    where
      there : (j : ℕ) → j < P.count → ((b : ℕ) → b < P.count → solution b < solution j → est b ≤ solution b) → next est j ≤ solution j
      there j l f = job_within P ok solution est x (suc (solution j)) (fact_within P ok solution est x (solution j) f) j l (omega arith)

      go : T (any (λ i. ltb (solution i) (est i)) P.count) ⊎ (T (any (λ i. ltb (solution i) (est i)) P.count) → ⊥) → ((i : ℕ) → i < P.count → est i ≡ solution i) ⊎ (left (next est) + 1 ≤ left est)
      go (inr n) = inl (λ i l. omega (arith, a i l, at_most (solution i) (est i) (λ t. n (any_of (λ j. ltb (solution j) (est j)) P.count i l t))))
      go (inl y) =
          let z = any_at (λ i. ltb (solution i) (est i)) P.count y in
          let w = soonest est (suc (solution z.0)) z.0 (omega arith) z.1 (ltb→lt (solution z.0) (est z.0) z.2) in
          inr (sum_more _ _ P.count w.0 1 (λ j l. under_mono solution (λ _. 1) (next est j) (est j) j (h j l)) w.1
          (omega (arith, under_self solution (λ _. 1) (next est w.0) w.0 (there w.0 w.1 w.3), under_in solution (λ _. 1) (est w.0) w.0 w.2)))

  left_le : (f g : ℕ → ℕ) → ((i : ℕ) → i < P.count → f i ≤ g i) → left f ≤ left g
  left_le f g h = sum_le _ _ P.count (λ i l. under_mono solution (λ _. 1) (f i) (g i) i (h i l))

  left_none : (f : ℕ → ℕ) → ((i : ℕ) → i < P.count → f i ≤ solution i) → left f ≤ 0
  left_none f h = omega (arith, sum_le (λ i. under solution (λ _. 1) (f i) i) (λ _. 0) P.count (λ i l. omega (arith, under_self solution (λ _. 1) (f i) i (h i l))), sum_of 0 P.count)

  left_all : (f : ℕ → ℕ) → left f ≤ P.count
  left_all f = ones_most _ P.count (λ i l. under_le solution (λ _. 1) (f i) i)

-- the jobs that a round looks at
abbrev pub looks : Problem → (cheaper : ℕ) → ℕ
looks P cheaper = sum (λ i. cond (due (P.conditions i) cheaper) 1 0) P.count

-- the rounds of the loop: the first, which looks at every job, and k behind it, each begun where a job needs a fact that got cheaper; all have looked at m jobs
pub data Rounds (P : Problem) (needed : ℕ) : (est costs : List ℕ) (cheaper k m : ℕ) → Type 0 where
  first : {est costs : List ℕ} {cheaper : ℕ} → Standing P est costs cheaper → NextRound P (λ _. 65535) est P.count → Rounds P needed est costs cheaper 0 P.count
  more : {est costs new costs' : List ℕ} {cheaper r k m : ℕ} → Rounds P needed est costs cheaper k m → T (due needed cheaper) → AfterRound P est costs new costs' r
      → Rounds P needed new costs' r (suc k) (m + looks P cheaper)

few_each : (P : Problem) (cheaper : ℕ) → looks P cheaper ≤ P.count
few_each P cheaper = ones_most _ P.count (λ i l. at_most_1 (due (P.conditions i) cheaper))

looks_by_rounds : {P : Problem} {needed : ℕ} {est costs : List ℕ} {cheaper k m : ℕ} → Rounds P needed est costs cheaper k m → m ≤ suc k * P.count
looks_by_rounds {P = P} (first s n) = omega (arith, suc-mul 0 P.count)
looks_by_rounds {P = P} {k = suc k} (more {cheaper = cheaper} r t d) = omega (arith, looks_by_rounds r, few_each P cheaper, suc-mul (suc k) P.count)

module _ (P : Problem) (ok : InOrder P) (late : (i : ℕ) → i < P.count → P.release i ≤ 65535) (needed : ℕ) (is : Word (λ p. any (λ i. has (P.conditions i) p) P.count) needed) where
  some_job : (cheaper : ℕ) → T (due needed cheaper) → 1 ≤ P.count
  some_job cheaper t =
      let z = any_at (λ p. has needed p && has cheaper p) 64 t in
      let y = any_at (λ i. has (P.conditions i) z.0) P.count (rw (is z.0) at (and_l (has needed z.0) _ z.2)) in
      omega (arith, y.1)

  module _ (solution : ℕ → ℕ) (x : Estimates P solution) where
    abbrev above : (ℕ → ℕ) → ℕ
    above est = left P ok solution x est

    -- what is so behind k rounds
    record At (est costs : List ℕ) (cheaper k : ℕ) : Type 0 where
      standing : Standing P est costs cheaper
      high : Above P ok solution x (entry est)
      few : k + above (entry est) + cond (due needed cheaper) 1 0 ≤ P.count

    at_first : (est costs : List ℕ) (cheaper : ℕ) → Standing P est costs cheaper → NextRound P (λ _. 65535) est P.count → At est costs cheaper 0
    at_first est costs cheaper s n = record { standing = s; high = λ i l. rw (n i l) (above_next P ok solution x (λ _. 65535) top i l); few = go (falls P ok solution x (λ _. 65535) top (λ i l. omega (arith, dearest_cap P (λ _. 65535) i, late i l))) (T? (due needed cheaper)) }
      where
        top : Above P ok solution x (λ _. 65535)
        top i l = omega (arith, x i l, dearest_cap P solution i, late i l)

        go : ((i : ℕ) → i < P.count → 65535 ≡ solution i) ⊎ (above (next P ok solution x (λ _. 65535)) + 1 ≤ above (λ _. 65535)) → T (due needed cheaper) ⊎ (T (due needed cheaper) → ⊥) → 0 + above (entry est) + cond (due needed cheaper) 1 0 ≤ P.count
        go (inl e) (inl t) = omega (arith, cond_yes (due needed cheaper) 1 0 t, some_job cheaper t, left_none P ok solution x (entry est) (λ i l. omega (arith, e i l, n i l, dearest_cap P (λ _. 65535) i, late i l)))
        go (inl e) (inr t) = omega (arith, cond_no (due needed cheaper) 1 0 t, left_all P ok solution x (entry est))
        go (inr e) t = omega (arith, at_most_1 (due needed cheaper), left_all P ok solution x (λ _. 65535), left_le P ok solution x (entry est) (next P ok solution x (λ _. 65535)) (λ i l. omega (arith, n i l)))

    at_more : (est costs new costs' : List ℕ) (cheaper r k : ℕ) → At est costs cheaper k → T (due needed cheaper) → AfterRound P est costs new costs' r → At new costs' r (suc k)
    at_more est costs new costs' cheaper r k a t d = record { standing = standing_next P est costs new costs' cheaper r a.standing d; high = λ i l. rw (d.is i l) (above_next P ok solution x (entry est) a.high i l); few = go (falls P ok solution x (entry est) a.high a.standing.high) (T? (due needed r)) }
      where
        begun : k + above (entry est) + 1 ≤ P.count
        begun = omega (arith, a.few, cond_yes (due needed cheaper) 1 0 t)

        lower : (i : ℕ) → i < P.count → entry new i ≤ entry est i
        lower i l = omega (arith, d.is i l, a.standing.high i l)

        go : ((i : ℕ) → i < P.count → entry est i ≡ solution i) ⊎ (above (next P ok solution x (entry est)) + 1 ≤ above (entry est)) → T (due needed r) ⊎ (T (due needed r) → ⊥) → suc k + above (entry new) + cond (due needed r) 1 0 ≤ P.count
        go (inl e) (inl u) = absurd (still P est costs new costs' cheaper r a.standing d (λ i l. omega (arith, lower i l, e i l, d.is i l, above_next P ok solution x (entry est) a.high i l)) needed u)
        go (inl e) (inr u) = omega (arith, begun, cond_no (due needed r) 1 0 u, left_le P ok solution x (entry new) (entry est) lower)
        go (inr e) u = omega (arith, begun, at_most_1 (due needed r), left_le P ok solution x (entry new) (next P ok solution x (entry est)) (λ i l. omega (arith, d.is i l)))

    at : {est costs : List ℕ} {cheaper k m : ℕ} → Rounds P needed est costs cheaper k m → At est costs cheaper k
    at (first s n) = at_first _ _ _ s n
    at (more r t d) = at_more _ _ _ _ _ _ _ (at r) t d

  pub few_rounds : {est costs : List ℕ} {cheaper k m : ℕ} → Rounds P needed est costs cheaper k m → k ≤ P.count
  few_rounds r = let e = estimates_exist P in omega (arith, (at e.0 e.1 r).few)

  -- so of 24 jobs no more than 600 are looked at
  pub few_looks : {est costs : List ℕ} {cheaper k m : ℕ} → P.count ≤ 24 → Rounds P needed est costs cheaper k m → m ≤ 600
  few_looks {k = k} l r =
      let most : suc k ≤ 25 = omega (arith, few_rounds r) in
      omega (arith, looks_by_rounds r, mul-le-mul_right P.count most)
