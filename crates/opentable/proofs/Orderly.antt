-- A table stays right and sound whatever the edits, accepted or refused; and a sound table is known by its atoms and its jobs.
-- Assumes nothing.
use mathlib.Core.Path.{◌≡◌, refl, sym, ap, ap₂, subst, ◌∙◌}
use mathlib.Core.Logic.{◌≢◌, ◌↔◌, ◌⊎◌, inl, inr, ⊎_elim}
use mathlib.Core.Bool.{◌&&◌, ◌||◌, cond}
use mathlib.Core.List.{List, [], ◌∷◌}
use Prim.Native.Nat.{ℕ, ◌+◌, ◌-◌, ◌≤◌, ◌<◌}
use native.Mathlib.Decide.{dec_lt}
use native.Mathlib.Omega.{arith}
use lib.Dec.{T, eqb, leb, eqb→eq, le→leb}
use lib.ListN.{set, replicate, length-replicate, length-set, get_or-replicate, get_or-eq_default}
use lib.Seq.{get_or-set_same, get_or-set_other, ext_get_or}
use Rattle.facts.specs.Facts.{has}
use Rattle.facts.specs.Least.{any}
use Rattle.facts.proofs.Bools.{T?, or_at, eqb_of, chosen, unchosen}
use Rattle.refusals.specs.Refusals.{Verdict, accepted}
use Rattle.refusals.proofs.Refused.{if_checks, then_checks, if_zero}
use Rattle.rules.specs.Table.{strays, job_strays, undoes}
use Rattle.rules.proofs.CheckLists.{table_checks_lem}
use Rattle.rules.proofs.Checked.{Passed, passed, passes}
use Rattle.tables.specs.declared.Action.{Action}
use Rattle.tables.specs.Tables.{no_job, record_at, unmarked, answer_of}
use Rattle.tables.specs.Steps.{stray_record}
use Rattle.tables.proofs.Laws.{accepts}
use Rattle.tables.proofs.Lent.{length_filled}
use Rattle.opentable.specs.declared.OpenTable.{OpenTable}
use Rattle.opentable.specs.Open.{present, places, bit_rows, clash_bit, moved_from, empty_of, enlarged, exchanged, reclashed, without_job, edited, open_checks, edit_checks, beginning, adding}
use Rattle.opentable.specs.Rows.{Right, Orderly, Edit, begin, add, replace, remove, editing, after_edits}
use Rattle.opentable.specs.Steps.{with_record}
use Rattle.opentable.proofs.Rows.{place_at, place_behind, changed_right, moved_there, without_right, empty_right, job_moved}

-- ── accepted or refused ──

either : (A : OpenTable → Type 0) (v : Verdict) (value : ℕ) (new old : OpenTable) → (v.number ≡ 0 → A new) → A old → A (edited v value new old).table
either A v value new old yea nay = go (T? (eqb v.number 0))
  where
    go : T (eqb v.number 0) ⊎ (T (eqb v.number 0) → ⊥) → A (cond (eqb v.number 0) new old)
    go (inl t) = subst A (sym (chosen (eqb v.number 0) new old t)) (yea (eqb→eq v.number 0 t))
    go (inr n) = subst A (sym (unchosen (eqb v.number 0) new old n)) nay

open_taken : (t : OpenTable) → (open_checks t).number ≡ 0 → open_checks t ≡ accepted
open_taken t z = accepts (table_checks_lem (present t)) z

edit_taken : (t : OpenTable) (k : ℕ) (u : OpenTable) → (edit_checks t k u).number ≡ 0 → (k < t.count) × (open_checks u ≡ accepted)
edit_taken t k u z =
    let h = if_zero (leb t.count k) 22 k (open_checks u) (omega arith) (accepts (then_checks (if_checks (leb t.count k) 22 k (omega arith)) (table_checks_lem (present u))) z) in
    (below (dec_lt k t.count) h.0, h.1)
  where
    below : Dec (k < t.count) → (T (leb t.count k) → ⊥) → k < t.count
    below (yes l) n = l
    below (no x) n = absurd (n (le→leb t.count k (omega (arith, x))))

few : (t : OpenTable) → open_checks t ≡ accepted → t.count ≤ 24
few t e = (passed (present t) e).count

-- ── rows ──

-- of the jobs other than the new one as many are there
one_more : (n i : ℕ) → i ≢ n → (i < n) ↔ (i < n + 1)
one_more n i x = (λ l. omega (arith, l), λ l. ⊎_elim (λ m. m) (λ e. absurd (x e)) (or_at i n (omega (arith, l))))

pub right_after : (t : OpenTable) (e : Edit) → Right t → Right (editing t e).table
right_after t (begin atoms) r = either Right (open_checks (empty_of atoms)) 0 (empty_of atoms) t (λ z. empty_right atoms) r
right_after t (add a) r = either Right (open_checks (enlarged t a)) t.count (reclashed (enlarged t a) t.count) t (λ z. changed_right t t.count a (t.count + 1) (one_more t.count) r) r
right_after t (replace x) r =
    either Right (edit_checks t x.job (exchanged t x.job x.record)) 0 (reclashed (exchanged t x.job x.record) x.job) t
    (λ z. changed_right t x.job x.record t.count (λ i y. (λ l. l, λ l. l)) r) r
right_after t (remove k) r =
    either Right (edit_checks t k t) 0 (without_job t k) t (λ z. let h = edit_taken t k t z in without_right t k h.0 (few t h.1) r) r

-- whatever the edits
pub right_always : (es : List Edit) (t : OpenTable) → Right t → Right (after_edits t es)
unfolding after_edits
right_always [] t r = r
right_always (e ∷ es) t r = right_always es (editing t e).table (right_after t e r)

-- ── sound tables ──

-- the checks of a table look at its atoms and its present jobs alone: where each job of u is one of t, u passes as t does
module _ (t u : OpenTable) (e : open_checks t ≡ accepted) (atoms : u.atoms ≡ t.atoms) (count : u.count ≤ 24)
    (from : (i : ℕ) → i < u.count → (k : ℕ) × (k < t.count) × (record_at u.jobs i ≡ record_at t.jobs k)) where
  abbrev was : Passed (present t)
  was = passed (present t) e

  -- what is so of every job of t is so of every job of u
  each : (A : Action → Type 0) → ((k : ℕ) → k < t.count → A (record_at t.jobs k)) → (i : ℕ) → i < u.count → A (record_at u.jobs i)
  each A h i l = let f = from i l in subst A (sym f.2) (h f.0 f.1)

  pub jobs_taken : open_checks u ≡ accepted
  unfolding job_strays undoes
  jobs_taken = passes (present u) (record {
    atoms = subst (λ (n : ℕ). (1 ≤ (unmarked n).atoms) × ((unmarked n).atoms ≤ 64)) (sym atoms) was.atoms;
    count = count;
    durations = each (λ a. (1 ≤ a.duration) × (a.duration ≤ 960)) was.durations;
    releases = each (λ a. a.release ≤ 2880) was.releases;
    facts = each (λ a. T (stray_record (unmarked u.atoms).atoms a) → ⊥) (subst (λ (n : ℕ). (k : ℕ) → k < t.count → T (stray_record (unmarked n).atoms (record_at t.jobs k)) → ⊥) (sym atoms) was.facts);
    edges = subst (λ (n : ℕ). T (strays (unmarked n).atoms 0 || strays (unmarked n).atoms 0) → ⊥) (sym atoms) was.edges;
    pure = each (λ a. T (any (λ p. has a.additions p && has a.deletions p) 64) → ⊥) was.pure;
  }) accepted

-- the table without jobs
pub sound_empty : (atoms : ℕ) → open_checks (empty_of atoms) ≡ accepted → Orderly (empty_of atoms)
sound_empty atoms e = record {
  right = empty_right atoms;
  taken = e;
  size = length-replicate {A = Action} 24 no_job;
  behind = λ i l. go i (dec_lt i 24);
}
  where
    go : (i : ℕ) → Dec (i < 24) → record_at (replicate 24 no_job) i ≡ no_job
    go i (yes l) = get_or-replicate 24 i no_job no_job l
    go i (no n) = get_or-eq_default (replicate 24 no_job) no_job {n = i} (omega (arith, length-replicate {A = Action} 24 no_job, n))

-- a record at place k, and so many jobs, k among them
sound_changed : (t : OpenTable) (k : ℕ) (a : Action) (n : ℕ) → ((i : ℕ) → i ≢ k → (i < t.count) ↔ (i < n)) → k < n → Orderly t → open_checks (with_record t k a n) ≡ accepted → Orderly (reclashed (with_record t k a n) k)
unfolding reclashed
sound_changed t k a n still l s e = record {
  right = changed_right t k a n still s.right;
  taken = e;
  size = length-set t.jobs k a ∙ s.size;
  behind = λ i m. let x : (i ≡ k → ⊥) = λ y. omega (arith, y, l, m) in
      get_or-set_other t.jobs k i a no_job x ∙ s.behind i (out i m (dec_lt i t.count) x);
}
  where
    out : (i : ℕ) → n ≤ i → Dec (i < t.count) → (i ≡ k → ⊥) → t.count ≤ i
    out i m (yes h) x = absurd (omega (arith, (still i x).0 h, m))
    out i m (no h) x = omega (arith, h)

-- one job gone
sound_without : (t : OpenTable) (k : ℕ) → k < t.count → Orderly t → Orderly (without_job t k)
unfolding without_job
sound_without t k l s = record {
  right = without_right t k l (few t s.taken) s.right;
  taken = jobs_taken t (without_job t k) s.taken refl (omega (arith, few t s.taken)) (λ i m. (moved_from k i, (moved_there t k l (few t s.taken) i).1 m, job_moved t k l (few t s.taken) i (omega (arith, m, few t s.taken))));
  size = length_filled (λ i. record_at t.jobs (moved_from k i)) 24 (replicate 24 no_job) ∙ length-replicate {A = Action} 24 no_job;
  behind = λ i m. go i m (dec_lt i 24);
}
  where
    go : (i : ℕ) → t.count - 1 ≤ i → Dec (i < 24) → record_at (places no_job (λ i. record_at t.jobs (moved_from k i))) i ≡ no_job
    go i m (yes h) = place_at no_job (λ i. record_at t.jobs (moved_from k i)) i h ∙ s.behind (moved_from k i) (up (dec_lt (moved_from k i) t.count))
      where
        up : Dec (moved_from k i < t.count) → t.count ≤ moved_from k i
        up (yes x) = absurd (omega (arith, (moved_there t k l (few t s.taken) i).0 x, m))
        up (no x) = omega (arith, x)
    go i m (no h) = place_behind no_job (λ i. record_at t.jobs (moved_from k i)) i (omega (arith, h))

pub sound_after : (t : OpenTable) (e : Edit) → Orderly t → Orderly (editing t e).table
sound_after t (begin atoms) s = either Orderly (open_checks (empty_of atoms)) 0 (empty_of atoms) t (λ z. sound_empty atoms (open_taken (empty_of atoms) z)) s
sound_after t (add a) s =
    either Orderly (open_checks (enlarged t a)) t.count (reclashed (enlarged t a) t.count) t
    (λ z. sound_changed t t.count a (t.count + 1) (one_more t.count) (omega arith) s (open_taken (enlarged t a) z)) s
sound_after t (replace x) s =
    either Orderly (edit_checks t x.job (exchanged t x.job x.record)) 0 (reclashed (exchanged t x.job x.record) x.job) t
    (λ z. let h = edit_taken t x.job (exchanged t x.job x.record) z in sound_changed t x.job x.record t.count (λ i y. (λ l. l, λ l. l)) h.0 s h.1) s
sound_after t (remove k) s = either Orderly (edit_checks t k t) 0 (without_job t k) t (λ z. sound_without t k (edit_taken t k t z).0 s) s

-- whatever the edits
pub sound_always : (es : List Edit) (t : OpenTable) → Orderly t → Orderly (after_edits t es)
unfolding after_edits
sound_always [] t s = s
sound_always (e ∷ es) t s = sound_always es (editing t e).table (sound_after t e s)

-- from any memory whatever, where the table begun is taken
pub sound_begun : (es : List Edit) (t : OpenTable) (atoms : ℕ) → (beginning t atoms).answer.number ≡ 0 → Orderly (after_edits (beginning t atoms).table es)
sound_begun es t atoms z =
    sound_always es (beginning t atoms).table
    (subst Orderly (sym (chosen (eqb (open_checks (empty_of atoms)).number 0) (empty_of atoms) t (eqb_of z))) (sound_empty atoms (open_taken (empty_of atoms) z)))

-- ── a sound table is known by its atoms and its jobs ──

abbrev table_of : ℕ → ℕ → List Action → List ℕ → OpenTable
table_of a n js rs = record { atoms = a; count = n; jobs = js; rows = rs }

module _ (t u : OpenTable) (s : Orderly t) (r : Orderly u) (count : t.count ≡ u.count) (jobs : (i : ℕ) → i < t.count → record_at t.jobs i ≡ record_at u.jobs i) where
  same_jobs : t.jobs ≡ u.jobs
  same_jobs = ext_get_or no_job t.jobs u.jobs (s.size ∙ sym r.size) (λ i l. go i (dec_lt i t.count))
    where
      go : (i : ℕ) → Dec (i < t.count) → record_at t.jobs i ≡ record_at u.jobs i
      go i (yes l) = jobs i l
      go i (no n) = s.behind i (omega (arith, n)) ∙ sym (r.behind i (omega (arith, n, count)))

  -- the rows by the rule, of so many atoms and jobs and these records
  abbrev ruled : ℕ → ℕ → List Action → List ℕ
  ruled a n js = bit_rows (clash_bit (present (table_of a n js [])))

  pub known_by_jobs : t.atoms ≡ u.atoms → t ≡ u
  known_by_jobs atoms =
      ap₂ (λ (a : ℕ) (n : ℕ). table_of a n t.jobs t.rows) atoms count
      ∙ ap₂ (λ (js : List Action) (rs : List ℕ). table_of u.atoms u.count js rs) same_jobs
      (s.right ∙ (ap₂ (λ (a n : ℕ). ruled a n t.jobs) atoms count ∙ (ap (ruled u.atoms u.count) same_jobs ∙ sym r.right)))

-- ── the room of a job that went ──

-- a job that was removed can be added again: its number is then the last one's
pub room_again : (t : OpenTable) (k : ℕ) → Orderly t → k < t.count → (adding (without_job t k) (record_at t.jobs k)).answer ≡ answer_of accepted (t.count - 1) 0
unfolding without_job
room_again t k s l = ap (λ (v : Verdict). answer_of v (t.count - 1) 0) (jobs_taken t (enlarged (without_job t k) (record_at t.jobs k)) s.taken refl (omega (arith, few t s.taken, l)) from)
  where
    from : (i : ℕ) → i < t.count - 1 + 1 → (j : ℕ) × (j < t.count) × (record_at (set (places no_job (λ i. record_at t.jobs (moved_from k i))) (t.count - 1) (record_at t.jobs k)) i ≡ record_at t.jobs j)
    from i m = go (dec_lt i (t.count - 1))
      where
        go : Dec (i < t.count - 1) → (j : ℕ) × (j < t.count) × (record_at (set (places no_job (λ i. record_at t.jobs (moved_from k i))) (t.count - 1) (record_at t.jobs k)) i ≡ record_at t.jobs j)
        go (yes n) = (
          moved_from k i,
          (moved_there t k l (few t s.taken) i).1 n,
          get_or-set_other (places no_job (λ i. record_at t.jobs (moved_from k i))) (t.count - 1) i (record_at t.jobs k) no_job (λ e. omega (arith, e, n)) ∙ place_at no_job (λ i. record_at t.jobs (moved_from k i)) i (omega (arith, n, few t s.taken)),
        )
        go (no n) = (
          k,
          l,
          subst (λ (x : ℕ). record_at (set (places no_job (λ i. record_at t.jobs (moved_from k i))) (t.count - 1) (record_at t.jobs k)) x ≡ record_at t.jobs k) (omega (arith, m, n))
              (get_or-set_same (places no_job (λ i. record_at t.jobs (moved_from k i))) (t.count - 1) (record_at t.jobs k) no_job (omega (arith, few t s.taken, l, length_filled (λ i. record_at t.jobs (moved_from k i)) 24 (replicate 24 no_job), length-replicate {A = Action} 24 no_job))),
        )
