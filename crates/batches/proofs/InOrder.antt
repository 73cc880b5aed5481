-- The table that batches make passes every check of a table: no call refuses it with 4 to 8 or 20.
-- Assumes nothing.
use mathlib.Core.Path.{◌≡◌, sym, subst}
use mathlib.Core.Logic.{inl, inr, ⊎_elim}
use mathlib.Core.Bool.{Bool, ◌&&◌, ◌||◌}
use mathlib.Core.List.{List}
use Prim.Native.Nat.{ℕ, suc, ◌+◌, ◌-◌, ◌≤◌, ◌<◌}
use native.Mathlib.Omega.{arith}
use lib.Dec.{T, eqb, eqb→eq}
use lib.ListN.{length, get_or}
use Rattle.facts.specs.Facts.{has}
use Rattle.facts.specs.Least.{any}
use Rattle.facts.proofs.Bools.{and_l, and_r, or_cases}
use Rattle.facts.proofs.Least.{any_at}
use Rattle.rules.specs.Table.{strays, job_strays, undoes}
use Rattle.rules.proofs.Checked.{Passed, strays_fact}
use Rattle.tables.specs.declared.Action.{Action}
use Rattle.tables.specs.declared.Loaded.{Loaded}
use Rattle.tables.specs.declared.Ask.{Ask}
use Rattle.tables.specs.Tables.{unmarked, job_at, problem}
use Rattle.batches.specs.Batches.{batch_stages, stage_at, jobs_up_to, first_job, first_done, last_done, JobWith, BatchTable}
use Rattle.batches.specs.Steps.{AllKnown}
use Rattle.batches.specs.Whose.{JobOf, FactOf, Touches}
use Rattle.batches.proofs.Laws.{group_fair, sum_at, first_done_le}
use Rattle.batches.proofs.Whose.{from_one_batch, own_facts}

-- what a check of a table asks of one job, where there are so many facts
record Sound (atoms : ℕ) (a : Action) : Type 0 where
  long : (1 ≤ a.duration) × (a.duration ≤ 960)
  free : a.release ≡ 0
  below : (p : ℕ) → Touches a p → p < atoms
  pure : (p : ℕ) → T (has a.additions p) → T (has a.deletions p) → ⊥

of_job : {needs adds deletes : ℕ → Bool} {d : ℕ} (atoms : ℕ) (a : Action) → JobWith needs adds deletes d a → (1 ≤ d) × (d ≤ 960) → ((p : ℕ) → T (adds p) → T (deletes p) → ⊥)
    → ((p : ℕ) → Touches a p → p < atoms) → Sound atoms a
of_job atoms a x l n below = record {
  long = (omega (arith, x.lasts, l.0), omega (arith, x.lasts, l.1));
  free = x.free;
  below = below;
  pure = λ p t u. n p (subst T (x.added p) t) (subst T (x.deleted p) u);
}

module _ (gs : List ℕ) (known : AllKnown gs) (few : length gs ≤ 4) {n atoms opening goals : ℕ} {job : ℕ → Action} (x : BatchTable gs n atoms opening goals job) where
  -- a done fact is below the atom count, and so is the bay
  done_below : (b i p : ℕ) → FactOf gs b i p → p < atoms
  done_below b i p (h, e) = omega (arith, e, h.1, x.facts, sum_at (λ c. length (batch_stages gs c)) b (length gs) h.0)

  bay_below : (p : ℕ) → p ≡ 0 → p < atoms
  bay_below p e = omega (arith, x.facts)

  sound : (k b i : ℕ) → JobOf gs b i k → Sound atoms (job k)
  sound k b i o = go o
    where
      below : (m : ℕ) → k ≡ m → (p : ℕ) → Touches (job m) p → p < atoms
      below m e p t = ⊎_elim (bay_below p) (λ y. done_below b y.0 p y.1) (own_facts gs x b i m p (subst (JobOf gs b i) e o) t)

      go : JobOf gs b i k → Sound atoms (job k)
      go (h, inl e) =
          let s = stage_at (batch_stages gs b) i in
          rw e (of_job atoms (job (first_job gs b + jobs_up_to (batch_stages gs b) i)) ((x.batch b h.0).stage i h.1) ((group_fair (get_or gs b 0) (known b h.0)).long i h.1)
          (λ p t u. omega (arith, eqb→eq p (first_done gs b + i) t, eqb→eq p 0 (and_r s.bay _ u))) (below _ e))
      go (h, inr (t, e)) =
          rw e (of_job atoms (job (suc (first_job gs b + jobs_up_to (batch_stages gs b) i))) ((x.batch b h.0).clearing i h.1 t) (omega arith, omega arith) (λ p u z. z) (below _ e))

  -- the goals are done facts
  goal_below : (p : ℕ) → T (any (λ b. eqb p (last_done gs b)) (length gs)) → p < atoms
  goal_below p t =
      let y = any_at (λ b. eqb p (last_done gs b)) (length gs) t in
      let some = (group_fair (get_or gs y.0 0) (known y.0 y.1)).some in
      done_below y.0 (length (batch_stages gs y.0) - 1) p ((y.1, omega (arith, some)), eqb→eq p (last_done gs y.0) y.2)

  within : (w : ℕ) → ((p : ℕ) → T (has w p) → p < atoms) → T (strays atoms w) → ⊥
  within w h t = let y = (strays_fact atoms w).0 t in omega (arith, y.1, h y.0 y.2)

  -- whoever lays these jobs into a table, and these numbers beside it, by either rule
  module _ (l : Loaded) (q : Ask) (same : (k : ℕ) → k < n → job_at l k ≡ job k) (jobs : q.jobs ≡ n) (count : n ≤ 24) (facts : (unmarked q.atoms).atoms ≡ atoms) (opened : q.opening ≡ opening) (wanted : q.goals ≡ goals) where
    each : (k : ℕ) → k < q.jobs → Sound atoms (job_at l k)
    each k m =
        let y = (from_one_batch gs).job k (omega (arith, jobs, x.count)) in
        subst (Sound atoms) (sym (same k (omega (arith, jobs)))) (sound k y.0 y.1 y.2)

    pub batches_pass : Passed (problem l q)
    unfolding job_strays undoes
    batches_pass = record {
      atoms = (omega (arith, facts, x.facts), omega (arith, facts, x.facts, few, first_done_le gs known (length gs) (omega arith)));
      count = omega (arith, jobs, count);
      durations = λ k m. (each k m).long;
      releases = λ k m. omega (arith, (each k m).free);
      facts = λ k m t. strayed k m (subst (λ (a : ℕ). T (strays a (job_at l k).conditions || (strays a (job_at l k).additions || strays a (job_at l k).deletions))) facts t);
      edges = λ t. ⊎_elim (within q.opening opens) (within q.goals wants) (or_cases (strays atoms q.opening) _ (subst (λ (a : ℕ). T (strays a q.opening || strays a q.goals)) facts t));
      pure = λ k m t. let y = any_at (λ p. has (job_at l k).additions p && has (job_at l k).deletions p) 64 t in (each k m).pure y.0 (and_l (has (job_at l k).additions y.0) _ y.2) (and_r (has (job_at l k).additions y.0) _ y.2);
    }
      where
        opens : (p : ℕ) → T (has q.opening p) → p < atoms
        opens p t = bay_below p (eqb→eq p 0 (subst T (x.bay p) (subst (λ (w : ℕ). T (has w p)) opened t)))

        wants : (p : ℕ) → T (has q.goals p) → p < atoms
        wants p t = goal_below p (subst T (x.last p) (subst (λ (w : ℕ). T (has w p)) wanted t))

        strayed : (k : ℕ) → k < q.jobs → T (strays atoms (job_at l k).conditions || (strays atoms (job_at l k).additions || strays atoms (job_at l k).deletions)) → ⊥
        strayed k m t =
            ⊎_elim (within (job_at l k).conditions (λ p h. (each k m).below p (inl h)))
            (λ u. ⊎_elim (within (job_at l k).additions (λ p h. (each k m).below p (inr (inl h)))) (within (job_at l k).deletions (λ p h. (each k m).below p (inr (inr h)))) (or_cases (strays atoms (job_at l k).additions) _ u))
            (or_cases (strays atoms (job_at l k).conditions) _ t)
