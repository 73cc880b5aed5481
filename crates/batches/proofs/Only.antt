-- Two results that meet the promise are equal: the answer and every lent record, refusals included.
-- Assumes nothing.
use mathlib.Core.Path.{◌≡◌, refl, sym, ap, ◌∙◌}
use mathlib.Core.Logic.{inl, inr, ◌≢◌}
use mathlib.Core.Bool.{Bool}
use mathlib.Core.List.{List}
use Prim.Native.Nat.{ℕ, ◌≤◌, ◌<◌, min}
use native.Mathlib.Omega.{arith}
use native.Mathlib.Decide.{ℕ_discrete}
use lib.Dec.{ltb, ltb→lt}
use lib.ListN.{length}
use Rattle.facts.specs.Least.{least, any}
use Rattle.facts.proofs.Bools.{at_most}
use Rattle.facts.proofs.Sets.{same_word}
use Rattle.refusals.specs.Refusals.{Verdict, accepted, refused, refuse_if}
use Rattle.refusals.proofs.Refused.{Second, Checks, if_checks, then_checks, if_pass, if_zero, if_other, seconds}
use Rattle.tables.specs.declared.Action.{Action}
use Rattle.tables.specs.declared.Answer.{Answer}
use Rattle.tables.specs.Tables.{filled}
use Rattle.tables.proofs.Laws.{accepts}
use Rattle.tables.proofs.Lent.{filled_none, filled_same}
use Rattle.batches.specs.declared.BatchAnswer.{BatchAnswer}
use Rattle.batches.specs.Batches.{job_count, JobWith, BatchTable, unknown, batch_checks, no_table, Expands, Batches}
use Rattle.batches.specs.Whose.{JobOf}
use Rattle.batches.specs.Steps.{AllKnown}
use Rattle.batches.proofs.Calls.{no_unknown}
use Rattle.batches.proofs.Whose.{from_one_batch}

-- ── the checks ──

module _ (gs : List ℕ) (room : ℕ) where
  abbrev listed : Verdict → Verdict
  listed v =
      refuse_if (any (unknown gs) (length gs)) 28 (min (least (unknown gs) (length gs)) 65535)
      (refuse_if (ltb 4 (length gs)) 29 4 (refuse_if (ltb 24 (job_count gs)) 30 0 (refuse_if (ltb room (job_count gs)) 3 0 v)))

  pub batch_checks_lem : Checks listed
  batch_checks_lem =
      then_checks (if_checks _ 28 (min (least (unknown gs) (length gs)) 65535) (omega arith))
      (then_checks (if_checks _ 29 4 (omega arith)) (then_checks (if_checks _ 30 0 (omega arith)) (if_checks (ltb room (job_count gs)) 3 0 (omega arith))))

  pub checks_accept : (batch_checks gs room).number ≡ 0 → batch_checks gs room ≡ accepted
  unfolding batch_checks
  checks_accept z = accepts batch_checks_lem z

  -- none of them has a second number
  pub checks_second : Second (batch_checks gs room)
  unfolding batch_checks
  checks_second = seconds listed batch_checks_lem accepted (λ z. refl)

  -- where nothing is refused there are at most 24 jobs, and a record for each
  pub jobs_fit : batch_checks gs room ≡ accepted → (job_count gs ≤ 24) × (job_count gs ≤ room)
  unfolding batch_checks
  jobs_fit e =
      let x = if_zero _ 30 0 _ (omega arith) (if_zero _ 29 4 _ (omega arith) (if_zero _ 28 (min (least (unknown gs) (length gs)) 65535) _ (omega arith) e).1).1 in
      (at_most 24 (job_count gs) x.0, at_most room (job_count gs) (if_zero _ 3 0 accepted (omega arith) x.1).0)

  -- and every one of at most 4 batches names a house group
  pub groups_fit : batch_checks gs room ≡ accepted → AllKnown gs × (length gs ≤ 4)
  unfolding batch_checks
  groups_fit e =
      let x = if_zero _ 28 (min (least (unknown gs) (length gs)) 65535) _ (omega arith) e in
      (no_unknown gs x.0, at_most 4 (length gs) (if_zero _ 29 4 _ (omega arith) x.1).0)

  -- so a caller that lends 24 records is not refused for too few
  pub never_short : 24 ≤ room → batch_checks gs room ≢ refused 3 0
  unfolding batch_checks
  never_short l e =
      let n = ap (λ (v : Verdict). v.number) e in
      let x = if_other _ 30 0 _ (omega arith) (if_other _ 29 4 _ (omega arith) (if_other _ 28 (min (least (unknown gs) (length gs)) 65535) _ (omega arith) n).1).1 in
      let z : ◌≡◌ {A = ℕ} 0 3 = ap (λ (v : Verdict). v.number) (sym (if_pass _ 3 0 accepted (λ t. omega (arith, ltb→lt room (job_count gs) t, at_most 24 (job_count gs) x.0)))) ∙ x.1 in
      omega arith

  pub expands_fit : (job : ℕ → Action) (r : BatchAnswer) → Expands gs room job r → (r.jobs ≤ 24) × (r.jobs ≤ room)
  expands_fit job r x = go (ℕ_discrete (batch_checks gs room).number 0)
    where
      go : Dec ((batch_checks gs room).number ≡ 0) → (r.jobs ≤ 24) × (r.jobs ≤ room)
      go (yes z) = let e = checks_accept z in let f = jobs_fit e in (omega (arith, (x.table e).count, f.0), omega (arith, (x.table e).count, f.1))
      go (no n) = let e : r.jobs ≡ 0 = ap (λ (s : BatchAnswer). s.jobs) (x.none (λ e. n (ap (λ (v : Verdict). v.number) e))) in (omega arith, omega arith)

-- ── the jobs ──

same_action : {needs adds deletes : ℕ → Bool} {d : ℕ} (a b : Action) → JobWith needs adds deletes d a → JobWith needs adds deletes d b → a ≡ b
same_action a b x y = λ j. record {
  conditions = same_word a.conditions b.conditions (λ p. x.needed p ∙ sym (y.needed p)) j;
  additions = same_word a.additions b.additions (λ p. x.added p ∙ sym (y.added p)) j;
  deletions = same_word a.deletions b.deletions (λ p. x.deleted p ∙ sym (y.deleted p)) j;
  duration = (x.lasts ∙ sym y.lasts) j;
  release = (x.free ∙ sym y.free) j;
}

module _ (gs : List ℕ) {n m a b o p g h : ℕ} {job new : ℕ → Action} (x : BatchTable gs n a o g job) (y : BatchTable gs m b p h new) where
  from : (k b i : ℕ) → JobOf gs b i k → job k ≡ new k
  from k b i (h, inl e) = rw e (same_action _ _ ((x.batch b h.0).stage i h.1) ((y.batch b h.0).stage i h.1))
  from k b i (h, inr (t, e)) = rw e (same_action _ _ ((x.batch b h.0).clearing i h.1 t) ((y.batch b h.0).clearing i h.1 t))

  same_job : (k : ℕ) → k < n → job k ≡ new k
  same_job k l = let z = (from_one_batch gs).job k (omega (arith, x.count)) in from k z.0 z.1 z.2

  -- nothing of the table is left open
  pub table_only : (n ≡ m) × (a ≡ b) × (o ≡ p) × (g ≡ h) × ((k : ℕ) → k < n → job k ≡ new k)
  table_only = (x.count ∙ sym y.count, x.facts ∙ sym y.facts, same_word o p (λ q. x.bay q ∙ sym (y.bay q)), same_word g h (λ q. x.last q ∙ sym (y.last q)), same_job)

-- ── the call ──

-- a refusal changes no record
pub refused_old : (gs : List ℕ) (old new : List Action) (r : BatchAnswer) → Batches gs old new r → (r.answer.number ≡ 0 → ⊥) → new ≡ old
refused_old gs old new r x n =
    let none = x.expands.none (λ e. n (ap (λ (a : Answer). a.number) x.expands.says ∙ ap (λ (v : Verdict). v.number) e)) in
    x.records ∙ (ap (λ (k : ℕ). filled x.job k old) (ap (λ (a : BatchAnswer). a.jobs) none) ∙ sym (filled_none x.job old))

module _ (gs : List ℕ) (old new new' : List Action) (r s : BatchAnswer) (x : Batches gs old new r) (y : Batches gs old new' s) where
  pub batches_only : (r ≡ s) × (new ≡ new')
  batches_only = go (ℕ_discrete (batch_checks gs (length old)).number 0)
    where
      answers : r.answer ≡ s.answer
      answers = x.expands.says ∙ sym y.expands.says

      laid : (m : ℕ) → r.jobs ≡ m → s.jobs ≡ m → ((k : ℕ) → k < m → x.job k ≡ y.job k) → new ≡ new'
      laid m e f h =
          x.records ∙ (ap (λ (n : ℕ). filled x.job n old) e ∙ (filled_same x.job y.job m old h ∙ sym (y.records ∙ ap (λ (n : ℕ). filled y.job n old) f)))

      go : Dec ((batch_checks gs (length old)).number ≡ 0) → (r ≡ s) × (new ≡ new')
      go (yes z) =
          let e = table_only gs (x.expands.table (checks_accept gs (length old) z)) (y.expands.table (checks_accept gs (length old) z)) in
          (λ j. record { answer = answers j; jobs = e.0 j; atoms = e.1 j; opening = e.2 j; goals = e.3 j }, laid r.jobs refl (sym e.0) e.4)
      go (no n) =
          let no_r = x.expands.none (λ e. n (ap (λ (v : Verdict). v.number) e)) in
          let no_s = y.expands.none (λ e. n (ap (λ (v : Verdict). v.number) e)) in
          (no_r ∙ (ap no_table answers ∙ sym no_s), laid 0 (ap (λ (a : BatchAnswer). a.jobs) no_r) (ap (λ (a : BatchAnswer). a.jobs) no_s) (λ k l. absurd (omega arith)))
