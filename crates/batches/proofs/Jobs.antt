-- The words of facts that a stage and its clearing job are made of, and what a table keeps where a job is put.
-- Assumes nothing.
use mathlib.Core.Path.{◌≡◌, refl, sym, ap, ap₂, ◌∙◌, subst}
use mathlib.Core.Logic.{⊎_elim}
use mathlib.Core.Bool.{Bool, false, ◌||◌}
use mathlib.Core.List.{List}
use Prim.Native.Nat.{ℕ, suc, ◌+◌, ◌-◌, ◌≤◌, ◌<◌}
use native.Mathlib.Numerals.{add-one}
use native.Mathlib.Omega.{arith}
use lib.Dec.{T, eqb}
use lib.ListN.{length, length-set}
use lib.Seq.{get_or-set_same, get_or-set_other}
use Rattle.facts.specs.Facts.{has}
use Rattle.facts.specs.Words.{Word}
use Rattle.facts.proofs.Bools.{same, below_suc}
use Rattle.facts.proofs.Least.{any_none, any_more}
use Rattle.facts.proofs.Sets.{has_zero}
use Rattle.tables.specs.declared.Action.{Action}
use Rattle.tables.specs.declared.Loaded.{Loaded}
use Rattle.tables.specs.Tables.{no_job, job_at}
use Rattle.tables.specs.Steps.{with_job}
use Rattle.batches.specs.declared.Stage.{Stage}
use Rattle.batches.specs.declared.Draft.{Draft}
use Rattle.batches.specs.Batches.{batch_stages, stage_at, jobs_for, jobs_up_to, first_job, first_done, last_done, StageJob, ClearingJob, Stages}
use Rattle.batches.specs.Steps.{OneStage, SomeStages, Appended, Drafted}
use Rattle.batches.proofs.Laws.{sum_none, sum_next, sum_at, jobs_for_le, jobs_for_bay}

-- the empty word
pub word_none : Word (λ p. false) 0
word_none p = same (has 0 p) false (has_zero p) (λ h. absurd h)

-- a word made from the empty one, and one made from that
pub word_from : (f : ℕ → Bool) (w : ℕ) → Word (λ p. has 0 p || f p) w → Word f w
word_from f w h p = h p ∙ ap (λ (b : Bool). b || f p) (word_none p)

pub word_then : (f g : ℕ → Bool) (w v : ℕ) → Word f w → Word (λ p. has w p || g p) v → Word (λ p. f p || g p) v
word_then f g w v h k p = k p ∙ ap (λ (b : Bool). b || g p) (h p)

-- ── a table with another job ──

put_same : (l : Loaded) (i : ℕ) (a : Action) → i < length l.jobs → job_at (with_job l i a) i ≡ a
put_same l i a h = get_or-set_same l.jobs i a no_job h

put_other : (l : Loaded) (i k : ℕ) (a : Action) → (k ≡ i → ⊥) → job_at (with_job l i a) k ≡ job_at l k
put_other l i k a h = get_or-set_other l.jobs i k a no_job h

module _ (l : Loaded) (n : ℕ) (s : Stage) (first i : ℕ) (a : Action) (made : StageJob s first i a) where
  -- a stage that does not hold the bay
  pub alone : (T s.bay → ⊥) → n < length l.jobs → OneStage l n s first i (with_job l n a)
  alone none h = record {
    before = λ k m. put_other l n k a (λ e. omega arith);
    stage = subst (StageJob s first i) (sym (put_same l n a h)) made;
    clearing = λ b. absurd (none b);
  }

  -- one that holds it, with its clearing job
  pub cleared : (c : Action) → ClearingJob (first + i) c → suc n < length l.jobs → OneStage l n s first i (with_job (with_job l n a) (n + 1) c)
  cleared c clears h =
      let t = with_job l n a in
      record {
        before = λ k m. put_other t (n + 1) k c (λ e. omega arith) ∙ put_other l n k a (λ e. omega arith);
        stage = subst (StageJob s first i) (sym (put_other t (n + 1) n c (λ e. omega arith) ∙ put_same l n a (omega arith))) made;
        clearing = λ b. subst (λ (k : ℕ). ClearingJob (first + i) (job_at (with_job t (n + 1) c) k)) (add-one n)
            (subst (ClearingJob (first + i)) (sym (put_same t (n + 1) c (omega (arith, length-set l.jobs n a)))) clears);
      }

-- ── stage by stage ──

-- two tables that agree below n agree on the stages whose jobs lie there
module _ (ss : List Stage) (at first : ℕ) (job new : ℕ → Action) where
  abbrev place : ℕ → ℕ
  place i = at + jobs_up_to ss i

  -- the jobs of an earlier stage stand before those of a later one
  earlier : (i j : ℕ) → i < j → place i + jobs_for (stage_at ss i) ≤ place j
  earlier i j l = omega (arith, sum_at (λ k. jobs_for (stage_at ss k)) i j l)

  pub stages_same : (n m : ℕ) → place n ≤ m → ((k : ℕ) → k < m → new k ≡ job k) → Stages ss n at first job → Stages ss n at first new
  stages_same n m top e x = record {
    stage = λ i l. subst (StageJob (stage_at ss i) first i) (sym (e (place i) (omega (arith, earlier i n l, (jobs_for_le (stage_at ss i)).0)))) (x.stage i l);
    clearing = λ i l b. subst (ClearingJob (first + i)) (sym (e (suc (place i)) (omega (arith, earlier i n l, jobs_for_bay (stage_at ss i) b)))) (x.clearing i l b);
  }

pub no_stages : (l : Loaded) (ss : List Stage) (at first : ℕ) → SomeStages l ss 0 at first l
no_stages l ss at first = record { before = λ k m. refl; stages = record { stage = λ i m. absurd (omega arith); clearing = λ i m. absurd (omega arith) } }

pub stages_more : (l t r : Loaded) (ss : List Stage) (n at first : ℕ) → SomeStages l ss n at first t → OneStage t (at + jobs_up_to ss n) (stage_at ss n) first n r → SomeStages l ss (n + 1) at first r
stages_more l t r ss n at first x y = record {
  before = λ k m. y.before k (omega arith) ∙ x.before k m;
  stages = record {
    stage = λ i m. ⊎_elim (λ h. old.stage i h) (λ e. rw e y.stage) (below_suc i n (omega arith));
    clearing = λ i m. ⊎_elim (λ h. old.clearing i h) (λ e. rw e y.clearing) (below_suc i n (omega arith));
  };
}
  where
    old : Stages ss n at first (job_at r)
    old = stages_same ss at first (job_at t) (job_at r) n (at + jobs_up_to ss n) (omega arith) y.before x.stages

-- ── batch by batch ──

pub drafted_none : (gs : List ℕ) (l : Loaded) → Drafted gs 0 (record { table = l; jobs = 0; facts = 1; goals = 0 })
drafted_none gs l = record {
  jobs = sym (sum_none (λ c. jobs_up_to (batch_stages gs c) (length (batch_stages gs c))));
  facts = ap suc (sym (sum_none (λ c. length (batch_stages gs c))));
  goals = λ p. word_none p ∙ any_none (λ c. eqb p (last_done gs c)) 0 (λ i h. absurd (omega arith));
  batch = λ c h. absurd (omega arith);
}

pub drafted_more : (gs : List ℕ) (b : ℕ) (d r : Draft) → Drafted gs b d → Appended d (batch_stages gs b) r → Drafted gs (b + 1) r
drafted_more gs b d r x y = record {
  jobs = y.jobs ∙ (ap (λ (m : ℕ). m + jobs_up_to (stages b) (length (stages b))) x.jobs ∙ sym (sum_next (λ c. jobs_up_to (stages c) (length (stages c))) b));
  facts = omega (arith, y.facts, x.facts, sum_next (λ c. length (stages c)) b);
  goals = λ p. y.goals p ∙ (ap₂ (λ (m : Bool) (n : ℕ). m || eqb p (n + (length (stages b) - 1))) (x.goals p) x.facts ∙ sym (any_more (λ c. eqb p (last_done gs c)) b));
  batch = λ c m. ⊎_elim (old c) (λ e. rw e here) (below_suc c b (omega arith));
}
  where
    stages : ℕ → List Stage
    stages = batch_stages gs

    old : (c : ℕ) → c < b → Stages (stages c) (length (stages c)) (first_job gs c) (first_done gs c) (job_at r.table)
    old c m =
        stages_same (stages c) (first_job gs c) (first_done gs c) (job_at d.table) (job_at r.table) (length (stages c)) d.jobs
        (omega (arith, x.jobs, sum_at (λ k. jobs_up_to (stages k) (length (stages k))) c b m)) y.table.before (x.batch c m)

    here : Stages (stages b) (length (stages b)) (first_job gs b) (first_done gs b) (job_at r.table)
    here =
        subst (λ (m : ℕ). Stages (stages b) (length (stages b)) m (first_done gs b) (job_at r.table)) x.jobs
        (subst (λ (m : ℕ). Stages (stages b) (length (stages b)) d.jobs m (job_at r.table)) x.facts y.table.stages)
