-- Every job and fact comes from exactly one batch, save the bay; a job touches no other batch's facts; two results that meet the promise are equal.
-- Assumes nothing.
use mathlib.Core.Path.{◌≡◌, refl, sym, subst}
use mathlib.Core.Logic.{◌⊎◌, inl, inr, ⊎_elim}
use mathlib.Core.Bool.{Bool, true, false, cond, ◌&&◌, ◌||◌}
use mathlib.Core.List.{List}
use Prim.Native.Nat.{ℕ, zero, suc, ◌+◌, ◌-◌, ◌<◌}
use native.Mathlib.Omega.{arith}
use lib.Dec.{T, eqb, ltb, eqb→eq}
use lib.ListN.{length}
use Rattle.facts.proofs.Bools.{and_r, or_cases}
use Rattle.tables.specs.declared.Action.{Action}
use Rattle.batches.specs.declared.Stage.{Stage}
use Rattle.batches.specs.Batches.{batch_stages, stage_at, jobs_for, jobs_up_to, first_job, first_done, JobWith, BatchTable}
use Rattle.batches.specs.Whose.{HasStage, JobOf, FactOf, FromOneBatch, Touches, OwnFacts}
use Rattle.batches.proofs.Laws.{Part, part_of, part_only, sum_at, jobs_for_le, jobs_for_bay}

module _ (gs : List ℕ) where
  -- how many jobs, and how many stages, a batch has; how many jobs a stage of it has
  abbrev jobs : ℕ → ℕ
  jobs b = jobs_up_to (batch_stages gs b) (length (batch_stages gs b))

  abbrev stages : ℕ → ℕ
  stages b = length (batch_stages gs b)

  abbrev each : ℕ → ℕ → ℕ
  each b i = jobs_for (stage_at (batch_stages gs b) i)

  -- a place among the jobs of a stage: 0 its own, 1 the clearing job
  abbrev Own : (b i r k : ℕ) → Type 0
  Own b i r k = HasStage gs b i × (r < each b i) × (k ≡ first_job gs b + (jobs_up_to (batch_stages gs b) i + r))

  own_of : (b i k : ℕ) → JobOf gs b i k → (r : ℕ) × Own b i r k
  own_of b i k (h, inl e) = (0, (h, omega (arith, (jobs_for_le (stage_at (batch_stages gs b) i)).0), omega (arith, e)))
  own_of b i k (h, inr (t, e)) = (1, (h, omega (arith, jobs_for_bay (stage_at (batch_stages gs b) i) t), omega (arith, e)))

  of_own : (b i r k : ℕ) → Own b i r k → JobOf gs b i k
  of_own b i zero k (h, l, e) = (h, inl (omega (arith, e)))
  of_own b i (suc zero) k (h, l, e) = (h, inr (two (stage_at (batch_stages gs b) i).bay l, omega (arith, e)))
    where
      two : (x : Bool) → 1 < cond x 2 1 → T x
      two true m = tt
      two false m = absurd (omega arith)
  of_own b i (suc (suc r)) k (h, l, e) = absurd (omega (arith, (jobs_for_le (stage_at (batch_stages gs b) i)).1))

  -- such a place, as parts of the two sums
  outer : (b i r k : ℕ) → Own b i r k → Part jobs (length gs) k b (jobs_up_to (batch_stages gs b) i + r)
  outer b i r k (h, l, e) = (h.0, omega (arith, sum_at (each b) i (stages b) h.1), e)

  pub from_one_batch : FromOneBatch gs
  from_one_batch = record {
    job = λ k l.
        let x = part_of jobs (length gs) k l in
        let y = part_of (each x.0) (stages x.0) x.1 x.2.1 in
        (x.0, y.0, of_own x.0 y.0 y.1 k ((x.2.0, y.2.0), y.2.1, omega (arith, x.2.2, y.2.2)));
    job_only = λ k b i c j x y. jobs_only k b i c j (own_of b i k x) (own_of c j k y);
    fact = λ p l m.
        let x = part_of stages (length gs) (p - 1) (omega arith) in
        (x.0, x.1, ((x.2.0, x.2.1), omega (arith, x.2.2)));
    fact_only = λ p b i c j (h, e) (h', e'). part_only stages (length gs) (p - 1) b i c j (h.0, h.1, omega (arith, e)) (h'.0, h'.1, omega (arith, e'));
  }
    where
      stage_only : (k b i r j t : ℕ) → Own b i r k → Own b j t k → i ≡ j
      stage_only k b i r j t (h, l, e) (h', l', e') =
          (part_only (each b) (stages b) (jobs_up_to (batch_stages gs b) i + r) i r j t (h.1, l, refl) (h'.1, l', omega (arith, e, e'))).0

      jobs_only : (k b i c j : ℕ) → (r : ℕ) × Own b i r k → (t : ℕ) × Own c j t k → (b ≡ c) × (i ≡ j)
      jobs_only k b i c j (r, x) (t, y) =
          let e : b ≡ c = (part_only jobs (length gs) k b (jobs_up_to (batch_stages gs b) i + r) c (jobs_up_to (batch_stages gs c) j + t) (outer b i r k x) (outer c j t k y)).0 in
          (e, stage_only k b i r j t x (subst (λ (d : ℕ). Own d j t k) (sym e) y))

  -- ── whose facts a job touches ──

  -- what a job touches passes one of its tests
  touched : {needs adds deletes : ℕ → Bool} {d : ℕ} (a : Action) → JobWith needs adds deletes d a → (p : ℕ) → Touches a p → T (needs p) ⊎ (T (adds p) ⊎ T (deletes p))
  touched a x p (inl t) = inl (subst T (x.needed p) t)
  touched a x p (inr (inl t)) = inr (inl (subst T (x.added p) t))
  touched a x p (inr (inr t)) = inr (inr (subst T (x.deleted p) t))

  module _ (b i p : ℕ) (h : HasStage gs b i) where
    abbrev Mine : Type 0
    Mine = (p ≡ 0) ⊎ ((j : ℕ) × FactOf gs b j p)

    done : T (eqb p (first_done gs b + i)) → Mine
    done t = inr (i, (h, eqb→eq p (first_done gs b + i) t))

    of_stage : (s : Stage) → T ((s.bay && eqb p 0) || (ltb 0 i && eqb p (first_done gs b + (i - 1)))) ⊎ (T (eqb p (first_done gs b + i)) ⊎ T (s.bay && eqb p 0)) → Mine
    of_stage s (inl t) =
        ⊎_elim (λ y. inl (eqb→eq p 0 (and_r s.bay _ y))) (λ y. inr (i - 1, ((h.0, omega (arith, h.1)), eqb→eq p (first_done gs b + (i - 1)) (and_r (ltb 0 i) _ y))))
        (or_cases (s.bay && eqb p 0) _ t)
    of_stage s (inr (inl t)) = done t
    of_stage s (inr (inr t)) = inl (eqb→eq p 0 (and_r s.bay _ t))

    of_clearing : T (eqb p (first_done gs b + i)) ⊎ (T (eqb p 0) ⊎ ⊥) → Mine
    of_clearing (inl t) = done t
    of_clearing (inr (inl t)) = inl (eqb→eq p 0 t)
    of_clearing (inr (inr t)) = absurd t

  pub own_facts : {n atoms opening goals : ℕ} {job : ℕ → Action} → BatchTable gs n atoms opening goals job → OwnFacts gs job
  own_facts {job = job} x b i k p (h, inl e) t =
      of_stage b i p h (stage_at (batch_stages gs b) i) (touched (job (first_job gs b + jobs_up_to (batch_stages gs b) i)) ((x.batch b h.0).stage i h.1) p (subst (λ (m : ℕ). Touches (job m) p) e t))
  own_facts {job = job} x b i k p (h, inr (y, e)) t =
      of_clearing b i p h (touched (job (suc (first_job gs b + jobs_up_to (batch_stages gs b) i))) ((x.batch b h.0).clearing i h.1 y) p (subst (λ (m : ℕ). Touches (job m) p) e t))
