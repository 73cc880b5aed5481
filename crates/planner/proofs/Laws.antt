-- Laws of the planner.
-- Assumes nothing.
use mathlib.Core.Path.{◌≡◌, refl, sym, subst, ◌∙◌}
use mathlib.Core.Logic.{◌≢◌}
use mathlib.Core.Bool.{Bool, true, false, false≢true}
use mathlib.Core.List.{List}
use Prim.Native.Nat.{ℕ, ◌+◌, ◌≤◌, ◌<◌}
use native.Mathlib.Numerals.{add-one}
use native.Mathlib.Omega.{arith}
use lib.Dec.{eqb, eqb→eq, T_not, not_T}
use borrow.Author.Tests.{eq-eqb}
use Rattle.rules.specs.Plans.{Plan, in_plan}
use Rattle.states.specs.State.{Search, HasJob, Left, Prefix}
use Rattle.states.proofs.Keep.{more_trans, plans_back}
use Rattle.states.proofs.Firsts as firsts
use Rattle.cells.specs.View.{ins, outs, los, his, view, Prunes, Puts, PutsBit, IsIn, IsOut, From, Till}
use Rattle.cells.proofs.Changes.{new_bit, new_word, old_word}
use Rattle.lent.specs.Lent.{Lent, count_of}
use Rattle.orders.specs.Order.{Tills}
use Rattle.leaves.specs.Leaf.{plan_of, Resolves}
use Rattle.search.specs.Search.{Some}
use Rattle.planner.specs.Planner.{BeginsSo, Tells, Without, Earlier, Lowered, LowerOk, Fixed, FirstPlanIs}

-- ── one question ──

-- the base itself says that there is none
pub tells_none : {L base : List ℕ} {X : Search → Plan → Type 0} {old : List ℕ} → ((P : Search) → Lent L P → (Q : Plan) → Left P (view base) Q → X P Q → ⊥) → Tells (Lent L) base X old old false
tells_none n = record {
  plan = λ e. absurd (false≢true e);
  fine = λ e. absurd (false≢true e);
  size = λ e. absurd (false≢true e);
  none = λ e. n;
  same = λ e. refl;
}

module _ {L base : List ℕ} {k : ℕ} where
  pub without_is : {t old new : List ℕ} {r : Bool} → PutsBit (IsOut k) outs k base t → Resolves (Lent L) t old new r → Tells (Lent L) base (Without k) old new r
  without_is d a = record {
    plan = λ e P l. plans_back d.more (a.plan e P l);
    fine = λ e P l. (a.plan e P l).stays.barred k (new_bit outs k d);
    size = a.size;
    none = λ e P l Q v n. a.none e P l Q (record { first = v.first; fits = d.fits P Q v.fits n });
    same = a.same;
  }

  pub sooner_is : {t x : ℕ} {u w old new : List ℕ} {r : Bool} → PutsBit (IsIn k) ins k base u → Tills u k x w → x + 1 ≡ t → Resolves (Lent L) w old new r → Tells (Lent L) base (Earlier k t) old new r
  sooner_is {t} {x} d h z a =
      let m = more_trans d.more h.says.more in
      let i = h.says.more.inside k (new_bit ins k d) in
      record {
        plan = λ e P l. plans_back m (a.plan e P l);
        fine = λ e P l. (let y = (a.plan e P l).stays in let j = y.inside k i in (j, omega (arith, y.hi k j, h.within)));
        size = a.size;
        none = λ e P l Q v n. a.none e P l Q (record { first = v.first; fits = h.says.fits P Q (d.fits P Q v.fits n.0) (λ j. omega (arith, n.1)) });
        same = a.same;
      }

-- ── job k starts at x ──

pub fixed : {s u w r : List ℕ} {k x : ℕ} → PutsBit (IsIn k) ins k s u → Puts (From k x) (los k) x u w → Puts (Till k x) (his k) x w r → Fixed s k x r
fixed {k = k} {x} d e h = record {
  more = more_trans d.more (more_trans e.more h.more);
  inside = h.more.inside k (e.more.inside k (new_bit ins k d));
  lo = old_word h (los k) (λ z. omega arith) ∙ new_word e;
  hi = new_word h;
  keep = λ P Q f i z. h.fits P Q (e.fits P Q (d.fits P Q f i) (λ j. omega arith)) (λ j. omega arith);
}

-- ── job by job ──

pub out_of : (k : ℕ) (q : List ℕ) → plan_of q k ≡ 65535 → (P : Search) → HasJob P (plan_of q) k → ⊥
unfolding in_plan
out_of k q e P i = T_not (eqb (plan_of q k) 65535) i.chosen (rw (eq-eqb (plan_of q k) 65535 e) tt)

in_of : (k : ℕ) (q : List ℕ) → (plan_of q k ≡ 65535 → ⊥) → (P : Search) → k < P.problem.count → HasJob P (plan_of q) k
unfolding in_plan
in_of k q e P l = record { below = l; chosen = not_T (eqb (plan_of q k) 65535) (λ h. e (eqb→eq (plan_of q k) 65535 h)) }

module _ {L base : List ℕ} {k : ℕ} where
  -- another plan within the base takes the place of the starts
  begins_next : {X : Search → Plan → Type 0} {q new : List ℕ} {r : Bool} → BeginsSo (Lent L) k base q → Tells (Lent L) base X q new r → r ≡ true → BeginsSo (Lent L) k base new
  begins_next {q = q} {new} b d e = record {
    prefix = λ P l. (let z = d.plan e P l in firsts.change P l.listed.wf k (view base) (plan_of q) (b.prefix P l) (plan_of new) z.good z.stays);
    size = d.size e;
  }

  pub low_next : {t : ℕ} {q new : List ℕ} {r : Bool} → LowerOk (Lent L) base k q → Tells (Lent L) base (Earlier k t) q new r → r ≡ true → LowerOk (Lent L) base k new
  low_next b d e = record { begins = begins_next b.begins d e; there = λ P l. (d.fine e P l).0 }

  -- the pruned base takes the base's place
  pub begins_pruned : {q r : List ℕ} → BeginsSo (Lent L) k base q → Prunes (Lent L) base r → BeginsSo (Lent L) k r q
  begins_pruned {q} {r} b d = record {
    prefix = λ P o. firsts.pruned P o.listed.wf k (view base) (plan_of q) (b.prefix P o) (view r) (d.keeps P o.listed.wf o);
    size = b.size;
  }

  -- no plan does without a job that the plan has: it is to start early
  pub lower_ok : {q new : List ℕ} {r : Bool} {x : ℕ} → k < count_of L → x ≡ plan_of q k → x ≢ 65535 → BeginsSo (Lent L) k base q → Tells (Lent L) base (Without k) q new r → r ≡ false → LowerOk (Lent L) base k new
  lower_ok {q} l z n b d e = subst (λ (z : List ℕ). LowerOk (Lent L) base k z) (sym (d.same e)) (record { begins = b; there = λ P o. in_of k q (λ y. n (z ∙ y)) P (omega (arith, o.listed.count)) })

  -- the window of a job that is as early as it can be holds its start
  pub in_window : {q old new : List ℕ} {r : Bool} → k < count_of L → Some (Lent L) → Lowered (Lent L) base k q → Tells (Lent L) base (Without k) old new r → r ≡ false → ((view base).lo k ≤ plan_of q k) × (plan_of q k ≤ (view base).hi k)
  in_window {q} l (P, o) g z e =
      firsts.window P o.listed.wf k (view base) (plan_of q) (g.begins.prefix P o) (omega (arith, o.listed.count)) (g.there P o)
      (λ F h y. z.none e P o F h y) (λ F h y s. g.least P o F h (y, s))

  pub step_out : {q t : List ℕ} → k < count_of L → BeginsSo (Lent L) k base q → ((P : Search) → Lent L P → HasJob P (plan_of q) k → ⊥) → PutsBit (IsOut k) outs k base t → BeginsSo (Lent L) (k + 1) t q
  step_out {q} {t} l b m d = record {
    prefix = λ P o. rw add-one (firsts.leave P o.listed.wf k (view base) (plan_of q) (b.prefix P o) (omega (arith, o.listed.count)) (view t) d.more (m P o) (new_bit outs k d) (λ F f n. d.fits P F f n));
    size = b.size;
  }

  pub step_change : {q t new : List ℕ} {r : Bool} → k < count_of L → BeginsSo (Lent L) k base q → Tells (Lent L) base (Without k) q new r → r ≡ true → PutsBit (IsOut k) outs k base t → BeginsSo (Lent L) (k + 1) t new
  step_change l b w e d = step_out l (begins_next b w e) (w.fine e) d

  pub step_in : {q old new t : List ℕ} {r : Bool} (v : ℕ) → k < count_of L → Lowered (Lent L) base k q → Tells (Lent L) base (Without k) old new r → r ≡ false → Fixed base k v t → plan_of q k ≡ v → BeginsSo (Lent L) (k + 1) t q
  step_in {q} {t = t} v l g z e d m = record {
    prefix = λ P o. rw add-one (firsts.fix P o.listed.wf k (view base) (plan_of q) (g.begins.prefix P o) (omega (arith, o.listed.count)) (g.there P o)
        (λ F h y. z.none e P o F h y) (λ F h y s. g.least P o F h (y, s))
        (view t) d.more d.inside (d.lo ∙ sym m) (d.hi ∙ sym m) (λ F f j y. d.keep P F f j (y ∙ m)));
    size = g.begins.size;
  }

-- ── the whole ──

pub first_done : {L base q : List ℕ} {n : ℕ} → n ≡ count_of L → BeginsSo (Lent L) n base q → FirstPlanIs (Lent L) q
first_done {base = base} {q} z b = record {
  plan = λ P o. firsts.finished P o.listed.wf (view base) (plan_of q) (subst (λ (y : ℕ). Prefix P y (view base) (plan_of q)) (z ∙ sym o.listed.count) (b.prefix P o));
  size = b.size;
}
