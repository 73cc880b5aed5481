-- A row of waits: from the estimates behind a job to what they say of every valid plan.
-- Assumes nothing.
use mathlib.Core.Path.{◌≡◌, sym, ap, subst, ◌∙◌}
use mathlib.Core.Logic.{◌⊎◌, inl, inr, ◌≢◌, ⊎_elim}
use mathlib.Core.Bool.{cond}
use mathlib.Core.List.{List}
use Prim.Native.Nat.{ℕ, zero, suc, ◌-◌, ◌≤◌, ◌<◌, ◌^◌, max}
use native.Mathlib.Omega.{arith}
use native.Mathlib.Decide.{dec_lt}
use lib.Dec.{T}
use lib.ListN.{length, get_or-eq_default}
use Rattle.facts.specs.Facts.{has}
use Rattle.facts.proofs.Bools.{T?}
use Rattle.facts.proofs.Digits.{digit, digit_not}
use Rattle.facts.proofs.Sets.{digit_has}
use Rattle.rules.specs.Table.{Problem}
use Rattle.rules.specs.Premises.{InOrder}
use Rattle.rules.specs.Plans.{finish}
use Rattle.rules.specs.Estimates.{plus, cost, condition, Estimates}
use Rattle.rules.proofs.Sums.{cond_yes, cond_no}
use Rattle.rules.proofs.Early.{plus_le, cost_free, cost_cap, condition_is}
use Rattle.tables.specs.declared.Action.{Action}
use Rattle.tables.specs.declared.Loaded.{Loaded}
use Rattle.tables.specs.declared.Ask.{Ask}
use Rattle.tables.specs.Tables.{no_job, job_at, problem}
use Rattle.tables.specs.Steps.{Released}
use Rattle.entries.specs.Entries.{entry}
use Rattle.estimates.specs.Rounds.{greatest, CostOf}
use Rattle.lent.specs.Lent.{Spacing}
use Rattle.distances.specs.Distances.{since, unreleased, Frees, SparedFacts, Complement, RowWithin}
use Rattle.distances.proofs.Law.{start_distance, goal_distance}

-- the facts below 64 that a word lacks are in its complement
pub lacks : (w : ℕ) → w < 2 ^ 64 → Complement w (2 ^ 64 - 1 - w)
lacks w f p l n =
    let ne : digit w p ≢ 1 = λ e. n (digit_has w p e) in
    digit_has (2 ^ 64 - 1 - w) p (omega (arith, digit_not 64 w p f l))

-- a fact costs no more than the condition
cost_condition : (P : Problem) (est : ℕ → ℕ) (p : ℕ) → cost P est p ≤ condition P est p
unfolding plus
cost_condition P est p = ⊎_elim (λ o. omega (arith, cost_free P est p o)) (λ n. omega (arith, condition_is P est p n, cost_cap P est p)) (T? (has P.opening p))

greatest_le : (w : ℕ) (costs : List ℕ) (m k : ℕ) → ((p : ℕ) → p < k → T (has w p) → entry costs p ≤ m) → greatest w costs k ≤ m
unfolding greatest
greatest_le w costs m zero h = omega arith
greatest_le w costs m (suc k) h = go (T? (has w k)) (greatest_le w costs m k (λ p l. h p (omega arith)))
  where
    go : T (has w k) ⊎ (T (has w k) → ⊥) → greatest w costs k ≤ m → max (cond (has w k) (entry costs k) 0) (greatest w costs k) ≤ m
    go (inl g) r = omega (arith, cond_yes (has w k) (entry costs k) 0 g, h k (omega arith) g)
    go (inr n) r = omega (arith, cond_no (has w k) (entry costs k) 0 n)

-- ── a row ──

-- what stands at place b of the row: an estimate behind duration and gap, or the end behind the duration
abbrev pub Behind : (dur gap : ℕ) → List ℕ → (end b x : ℕ) → Type 0
Behind dur gap est end b x = (b < 24 → x ≡ plus (plus dur gap) (entry est b)) × (24 ≤ b → x ≡ plus dur end)

pub behind_all : {dur gap : ℕ} (est : List ℕ) {end : ℕ} (row : List ℕ) → ((b : ℕ) → b < 25 → Behind dur gap est end b (entry row b)) → RowWithin dur gap est end row
behind_all {dur} {gap} est {end} row h = record {
  jobs = λ b l. omega (arith, (h b (omega arith)).0 l, plus_le dur gap, plus_le (plus dur gap) (entry est b));
  last = omega (arith, (h 24 (omega arith)).1 (omega arith), plus_le dur end);
}

-- ── the table without releases ──

-- the numbers asked with from the finish of a job on
abbrev since_ask : Ask → (word : ℕ) → Ask
since_ask q w = record { jobs = q.jobs; atoms = q.atoms; opening = w; goals = q.goals; bound = q.bound; set = q.set; pairs = q.pairs }

-- from the finish of a job on it is the problem of the table with them
pub free_since : (l k : Loaded) (q : Ask) (w : ℕ) → Frees l k → problem k (since_ask q w) ≡ since (problem l q) w
free_since l k q w r = λ t. record {
  count = q.jobs;
  conditions = λ i. (r i t).conditions;
  additions = λ i. (r i t).additions;
  deletions = λ i. (r i t).deletions;
  duration = λ i. (r i t).duration;
  release = λ i. (r i t).release;
  gap = (problem l q).gap;
  atoms = (problem l q).atoms;
  opening = w;
  goals = q.goals;
}

-- so it has no release over 2,880
pub free_released : (l k : Loaded) (q : Ask) → Frees l k → Released k q
free_released l k q r i h = omega (arith, ap (λ (a : Action). a.release) (r i))

-- where the first 24 jobs are free, all are: behind them there is none
pub frees_all : (l k : Loaded) → length l.jobs ≡ 24 → length k.jobs ≡ 24 → ((i : ℕ) → i < 24 → job_at k i ≡ unreleased (job_at l i)) → Frees l k
frees_all l k e f h i = go (dec_lt i 24)
  where
    go : Dec (i < 24) → job_at k i ≡ unreleased (job_at l i)
    go (yes m) = h i m
    go (no m) = get_or-eq_default k.jobs no_job (omega (arith, f)) ∙ ap unreleased (sym (get_or-eq_default l.jobs no_job (omega (arith, e))))

-- the row of job a, from the facts that it spares
row_apart : (P : Problem) (a w : ℕ) (est : List ℕ) (end : ℕ) (row : List ℕ) → P.count ≤ 24 → SparedFacts P a w → Estimates (since P w) (entry est) → CostOf (since P w) (entry est) P.goals end
    → RowWithin (P.duration a) P.gap est end row → InOrder P → Spacing P a (entry row)
row_apart P a w est end row few r x d h ok = record {
  starts = λ bound Q v ia b ib o. omega (arith, start_distance P ok bound Q v a ia w r (entry est) x b ib o, h.jobs b (omega (arith, ib.below)));
  ends = λ bound Q v ia.
      let f : finish P Q a ≤ bound = v.inside a ia in
      omega (
        arith,
        h.last,
        d.is,
        greatest_le P.goals d.costs (bound - finish P Q a) 64
            (λ p l g. omega (arith, d.are p l, cost_condition (since P w) (entry est) p, goal_distance P ok bound Q v a ia w r (entry est) x p g)),
      );
}

-- worked out on the table without releases
pub row_free : (l k : Loaded) (q : Ask) (a w : ℕ) (est : List ℕ) (end : ℕ) (row : List ℕ) → q.jobs ≤ 24 → Complement (job_at k a).deletions w → Estimates (problem k (since_ask q w)) (entry est)
    → CostOf (problem k (since_ask q w)) (entry est) q.goals end → RowWithin (job_at k a).duration (problem l q).gap est end row → Frees l k → InOrder (problem l q) → Spacing (problem l q) a (entry row)
row_free l k q a w est end row few s x d h r =
    row_apart (problem l q) a w est end row few
    (subst (λ (y : ℕ). Complement y w) (ap (λ (b : Action). b.deletions) (r a)) s)
    (subst (λ (P : Problem). Estimates P (entry est)) (free_since l k q w r) x)
    (subst (λ (P : Problem). CostOf P (entry est) q.goals end) (free_since l k q w r) d)
    (subst (λ (y : ℕ). RowWithin y (problem l q).gap est end row) (ap (λ (b : Action). b.duration) (r a)) h)
