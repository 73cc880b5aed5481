-- What an edit says and leaves, by the checks of the table.
-- Assumes nothing.
use mathlib.Core.Path.{◌≡◌, sym, ap, ap₂, subst, ◌∙◌}
use mathlib.Core.Bool.{Bool, true, false, not, cond}
use Prim.Native.Nat.{ℕ, ◌≤◌, ◌<◌}
use native.Mathlib.Omega.{arith}
use borrow.Author.Tests.{ne_eqb}
use lib.Dec.{eqb, leb, ltb, ltb→lt, lt→ltb, leb→le, le→leb}
use Rattle.refusals.specs.Refusals.{Verdict, accepted, refused, refuse_if}
use Rattle.refusals.proofs.Refused.{if_pass, if_hit}
use Rattle.rules.specs.Table.{Problem, between, table_checks, bound_check}
use Rattle.rules.proofs.CheckLists.{table_checks_lem}
use Rattle.tables.specs.declared.Loaded.{Loaded}
use Rattle.tables.specs.declared.Ask.{Ask}
use Rattle.tables.specs.declared.Answer.{Answer}
use Rattle.tables.specs.Tables.{unmarked, answer_of, call_checks}
use Rattle.tables.specs.Steps.{Judges, Cleared}
use Rattle.tables.proofs.Laws.{said, numbered, answer_no}
use Rattle.tables.proofs.Calls.{accepts_by}
use Rattle.opentable.specs.declared.OpenTable.{OpenTable}
use Rattle.opentable.specs.declared.Wanted.{Wanted}
use Rattle.opentable.specs.declared.Replacement.{Replacement}
use Rattle.opentable.specs.declared.Edited.{Edited}
use Rattle.opentable.specs.Open.{jobs_of, ask_of, present, open_checks, edit_checks, edited, exchanged, reclashed, without_job, replacing, removing}
use Rattle.opentable.specs.Steps.{Overfull}

-- ── the checks of the table are those of a call on it that wants nothing ──

abbrev nothing : Wanted
nothing = record { opening = 0; goals = 0; bound = 0 }

no_more : (t : OpenTable) → call_checks false 0 (jobs_of t) (ask_of t nothing) accepted ≡ open_checks t
unfolding bound_check refuse_if
no_more t = if_pass (ltb t.count t.count) 3 0 _ (λ h. omega (arith, ltb→lt t.count t.count h))

pub open_judged : (t : OpenTable) (l : Loaded) (q : Ask) (r : Answer) → l ≡ jobs_of t → q ≡ ask_of t nothing → Judges (call_checks false 0 l q accepted) (Cleared false 0 l q) r → Judges (open_checks t) (t.count ≤ 24) r
open_judged t l q r el eq j = record {
  says = j.says ∙ said 0 0 (sym (ap₂ (λ (x : Loaded) (y : Ask). call_checks false 0 x y accepted) el eq ∙ no_more t));
  order = λ z. subst (λ (x : Ask). x.jobs ≤ 24) eq (j.order z).few;
}

-- ── more than 24 jobs ──

abbrev pub with_count : OpenTable → ℕ → OpenTable
with_count t n = record { atoms = t.atoms; count = n; jobs = t.jobs; rows = t.rows }

full : (P : Problem) (v : Verdict) → 24 < P.count → table_checks P v ≡ refuse_if (not (between 1 64 P.atoms)) 4 0 (refused 5 0)
unfolding table_checks
full P v l = ap (refuse_if (not (between 1 64 P.atoms)) 4 0) (if_hit (ltb 24 P.count) 5 0 _ (lt→ltb 24 P.count l))

four_or_five : (b : Bool) → (refuse_if b 4 0 (refused 5 0)).number ≡ 0 → ⊥
unfolding refuse_if
four_or_five true z = omega (arith, z)
four_or_five false z = omega (arith, z)

pub full_judged : (t : OpenTable) (r : Answer) → 24 < t.count → Judges (open_checks t) (t.count ≤ 24) r → Overfull t.atoms r
full_judged t r l j = record {
  says = λ u e m. j.says ∙ said 0 0 (full (present u) accepted m ∙ (ap (λ (n : ℕ). refuse_if (not (between 1 64 (unmarked n).atoms)) 4 0 (refused 5 0)) e ∙ sym (full (present t) accepted l)));
  refuses = λ z. omega (arith, j.order z, l);
}

-- ── refused, and accepted ──

abbrev pub both : Answer → OpenTable → Edited
both a t = record { answer = a; table = t }

pub refused_so : (v : Verdict) (r : Answer) (value : ℕ) (new old : OpenTable) → r ≡ answer_of v 0 0 → (r.number ≡ 0 → ⊥) → both r old ≡ edited v value new old
refused_so v r value new old e n =
    let x : (v.number ≡ 0 → ⊥) = λ z. n (numbered 0 0 e ∙ z) in
    ap₂ both (e ∙ answer_no v 0 value 0 x) (sym (ap (λ (b : Bool). cond b new old) (ne_eqb v.number 0 x)))

pub accepted_so : (v : Verdict) (r : Answer) (value : ℕ) (new old : OpenTable) → v ≡ accepted → r ≡ answer_of accepted value 0 → both r new ≡ edited v value new old
accepted_so v r value new old e is =
    ap₂ both (is ∙ said value 0 e) (sym (ap (λ (x : Verdict). cond (eqb x.number 0) new old) e))

-- the checks of a table that say 0 accept it
pub open_accepts : (t : OpenTable) (r : Answer) → r ≡ answer_of (open_checks t) 0 0 → r.number ≡ 0 → open_checks t ≡ accepted
open_accepts t r e z = accepts_by (table_checks_lem (present t)) e z

-- a job that is there, and one that is not
pub there : (t : OpenTable) (k : ℕ) (u : OpenTable) → k < t.count → edit_checks t k u ≡ open_checks u
there t k u l = if_pass (leb t.count k) 22 k (open_checks u) (λ h. omega (arith, leb→le t.count k h))

pub not_there : (t : OpenTable) (k : ℕ) (u : OpenTable) → t.count ≤ k → edit_checks t k u ≡ refused 22 k
not_there t k u l = if_hit (leb t.count k) 22 k (open_checks u) (le→leb t.count k l)

-- ── each call ──

-- an edit of job k that is not there, one whose table u is refused, and one whose table is taken
module _ (t : OpenTable) (k : ℕ) (u : OpenTable) (r : Answer) (new : OpenTable) where
  absent : t.count ≤ k → r ≡ answer_of (refused 22 k) 0 0 → both r t ≡ edited (edit_checks t k u) 0 new t
  absent l e = refused_so (edit_checks t k u) r 0 new t (e ∙ said 0 0 (not_there t k u l)) (λ z. omega (arith, numbered 0 0 e, z))

  bad : k < t.count → r ≡ answer_of (open_checks u) 0 0 → (r.number ≡ 0 → ⊥) → both r t ≡ edited (edit_checks t k u) 0 new t
  bad l e n = refused_so (edit_checks t k u) r 0 new t (e ∙ said 0 0 (there t k u l)) n

  good : k < t.count → r ≡ answer_of (open_checks u) 0 0 → r.number ≡ 0 → both r new ≡ edited (edit_checks t k u) 0 new t
  good l e z = let h = open_accepts u r e z in accepted_so (edit_checks t k u) r 0 new t (there t k u l ∙ h) (e ∙ said 0 0 (sym h))

module _ (t : OpenTable) (x : Replacement) where
  abbrev other : OpenTable
  other = exchanged t x.job x.record

  abbrev after : OpenTable
  after = reclashed other x.job

  pub replaced_absent : (r : Answer) → t.count ≤ x.job → r ≡ answer_of (refused 22 x.job) 0 0 → both r t ≡ replacing t x
  replaced_absent r = absent t x.job other r after

  pub replaced_no : (r : Answer) → x.job < t.count → r ≡ answer_of (open_checks other) 0 0 → (r.number ≡ 0 → ⊥) → both r t ≡ replacing t x
  replaced_no r = bad t x.job other r after

  pub replaced_so : (u : OpenTable) (s : Edited) → x.job < t.count → u ≡ other → s ≡ edited (open_checks u) 0 (reclashed u x.job) t → s ≡ replacing t x
  replaced_so u s l e is =
      is ∙ (ap (λ (y : OpenTable). edited (open_checks y) 0 (reclashed y x.job) t) e ∙ ap (λ (v : Verdict). edited v 0 after t) (sym (there t x.job other l)))

module _ (t : OpenTable) (k : ℕ) (r : Answer) where
  pub removed_absent : t.count ≤ k → r ≡ answer_of (refused 22 k) 0 0 → both r t ≡ removing t k
  removed_absent = absent t k t r (without_job t k)

  pub removed_no : k < t.count → r ≡ answer_of (open_checks t) 0 0 → (r.number ≡ 0 → ⊥) → both r t ≡ removing t k
  removed_no = bad t k t r (without_job t k)

  pub removed_so : (u : OpenTable) → k < t.count → r ≡ answer_of (open_checks t) 0 0 → r.number ≡ 0 → u ≡ without_job t k → both r u ≡ removing t k
  removed_so u l e z is = ap (both r) is ∙ good t k t r (without_job t k) l e z
