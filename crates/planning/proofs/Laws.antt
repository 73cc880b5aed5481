-- Laws of planning within a bound.
-- Assumes nothing.
use mathlib.Core.Path.{◌≡◌, sym, ap, subst}
use mathlib.Core.Bool.{Bool, true, false, true≢false}
use mathlib.Core.List.{List}
use Rattle.std.specs.Prelude.{Option, Some, None}
use Prim.Native.Nat.{ℕ, ◌+◌, ◌≤◌, max}
use native.Mathlib.Omega.{arith}
use native.Mathlib.Numerals.{add-one}
use lib.Dec.{T}
use Rattle.rules.specs.Table.{Problem}
use Rattle.rules.specs.Plans.{Plan, Valid}
use Rattle.rules.specs.Premises.{enough_time, most}
use Rattle.rules.specs.Order.{First, LeastBound, NoPlan}
use Rattle.rules.specs.Sums.{sum}
use Rattle.tables.specs.Tables.{job_at, problem}
use Rattle.tables.specs.declared.Loaded.{Loaded}
use Rattle.tables.specs.declared.Ask.{Ask}
use Rattle.states.specs.State.{Search}
use Rattle.states.proofs.Firsts as firsts
use Rattle.cells.specs.View.{view, Sets}
use Rattle.lent.specs.Lent.{Listed, Lent}
use Rattle.lent.proofs.Laws.{rebound_back}
use Rattle.leaves.specs.Leaf.{plan_of}
use Rattle.planner.specs.Planner.{BeginsSo, FirstPlanIs}
use Rattle.outset.specs.Outset.{FitsAll, SearchedFor}
use Rattle.bounds.specs.Bounds.{Served, SomeAt, Bracketed}
use Rattle.bounds.proofs.Laws.{lent_at}
use Rattle.planning.specs.Derived.{PlanAt, FirstAt, LeastAt, LeastOf}

-- ── one bound ──

module _ {L K : List ℕ} {bound x : ℕ} (d : Sets L 852 x K) (z : x ≡ bound) (v : Served L bound) where
  pub begins_at : (s : List ℕ) (f : (P : Search) → Lent K P → FitsAll P s) {q : List ℕ} → SomeAt L bound q → BeginsSo (Lent K) 0 s q
  begins_at s f {q} w = record {
    prefix = λ P o. firsts.begin P o.listed.wf (view s) (plan_of q) (subst (λ (b : ℕ). Valid P.problem b (plan_of q)) (sym (bound_is P o)) (w.valid P.problem (rebound_back d P.problem o.listed))) (λ F b. f P o F b.ok);
    size = w.size;
  }
    where
      bound_is : (P : Search) → Lent K P → P.bound ≡ bound
      bound_is P o = omega (arith, o.bound, (lent_at d z v v.served v.listed).bound)

  pub first_at_lem : {q : List ℕ} → FirstPlanIs (Lent K) q → FirstAt L bound q
  first_at_lem a = record { first = λ P t. a.plan _ (lent_at d z v P t); size = a.size }

pub plan_none : {P : Problem} {bound : ℕ} {starts : List ℕ} → NoPlan P bound → PlanAt P bound starts false
plan_none n = record { first = λ h. absurd (subst T (sym h) tt); size = λ h. absurd (subst T (sym h) tt); none = λ h. n }

pub plan_first : {L : List ℕ} {bound : ℕ} {starts : List ℕ} → FirstAt L bound starts → (P : Problem) → Listed L P → PlanAt P bound starts true
plan_first f P t = record { first = λ h. f.first P t; size = λ h. f.size; none = λ h. absurd (true≢false h) }

-- ── enough time ──

-- as the code sums it up
pub enough_of : (l : Loaded) (q : Ask) {all last gap : ℕ} → all ≡ last + sum (λ a. (job_at l a).duration + gap) q.jobs → gap ≡ (problem l q).gap → last ≡ most (λ a. (job_at l a).release) q.jobs
    → all ≡ enough_time (problem l q)
enough_of l q e z m = rw (e, z, m)

-- ── what is searched has the table's plans ──

module _ {l : Loaded} {q : Ask} {o : List ℕ} (x : SearchedFor l q o) where
  none_same : (bound : ℕ) → NoPlan x.searched bound → NoPlan (problem l q) bound
  none_same bound n z v = n z ((x.same bound z).0 v)

  first_same : (bound : ℕ) (s : Plan) → First x.searched bound s → First (problem l q) bound s
  first_same bound s f = record { ok = (x.same bound s).1 f.ok; none = λ z v b. f.none z ((x.same bound z).0 v) (record { at = b.at; below = omega (arith, b.below, x.jobs); same = b.same; less = b.less }) }

  pub plan_same : {bound : ℕ} {starts : List ℕ} {r : Bool} → PlanAt x.searched bound starts r → PlanAt (problem l q) bound starts r
  plan_same {bound} p = record { first = λ e. first_same bound _ (p.first e); size = p.size; none = λ e. none_same bound (p.none e) }

  pub least_same : (top : ℕ) (starts : List ℕ) (found : Option ℕ) → LeastOf x.searched top starts found → LeastOf (problem l q) top starts found
  least_same top starts None n = none_same top n
  least_same top starts (Some v) p = record { found = bound p.found; size = p.size }
    where
      bound : {b : ℕ} {s : Plan} → LeastBound x.searched top b s → LeastBound (problem l q) top b s
      bound {b} {s} f = record { within = f.within; first = first_same b s f.first; none = λ c z m v. f.none c z m ((x.same c z).0 v) }

-- ── enough time ──

pub sum_next : (f : ℕ → ℕ) (j : ℕ) → f j + sum f j ≡ sum f (j + 1)
unfolding sum
sum_next f j = ap (λ (n : ℕ). sum f n) (sym (add-one j))

pub most_next : (f : ℕ → ℕ) (j : ℕ) → max (f j) (most f j) ≡ most f (j + 1)
unfolding most
most_next f j = ap (most f) (sym (add-one j))

-- the least bound with the first plan at it
pub least_found : {L starts best : List ℕ} {top b : ℕ} → Bracketed L b b starts → b ≤ top → FirstAt L b best → (P : Problem) → Listed L P → LeastAt P top best b
least_found w l f P t = record { found = record { within = l; first = f.first P t; none = λ c z m g. w.none P t c m z g }; size = f.size }
