-- Laws of the least bound.
-- Assumes nothing.
use mathlib.Core.Path.{◌≡◌, sym, subst, ◌∙◌}
use mathlib.Core.Logic.{⊎_elim}
use mathlib.Core.Bool.{Bool, true, false, not}
use mathlib.Core.List.{List}
use Prim.Native.Nat.{ℕ, ◌+◌, ◌≤◌, ◌<◌}
use native.Mathlib.Nat.{le_refl}
use native.Mathlib.Omega.{arith}
use native.Mathlib.Decide.{dec_lt}
use borrow.Author.Tests.{not-true}
use lib.Dec.{T, eqb}
use Rattle.facts.proofs.Bools.{below_suc, eqb_not, not_eqb}
use Rattle.rules.specs.Table.{Problem}
use Rattle.rules.specs.Premises.{InOrder}
use Rattle.rules.specs.Plans.{Plan, in_plan, Valid}
use Rattle.rules.specs.Order.{NoPlan}
use Rattle.rules.proofs.Orders.{wider}
use Rattle.rules.proofs.Enough.{narrower}
use Rattle.states.specs.State.{Search, Dead}
use Rattle.states.proofs.Keep.{keeps_dead}
use Rattle.states.proofs.Firsts.{dead_none}
use Rattle.cells.specs.View.{view, Sets}
use Rattle.lent.specs.Lent.{Listed, Lent}
use Rattle.lent.proofs.Laws.{rebound_to, rebound_back, rebound_lent}
use Rattle.leaves.specs.Leaf.{plan_of, SettledBy, Resolves}
use Rattle.search.specs.Search.{Some}
use Rattle.outset.specs.Outset.{FitsAll}
use Rattle.bounds.specs.Bounds.{Served, SameLists, NoneBelow, SomeAt, AnyAt, Hopeless, Later, LastEnd, Probes, Bracketed, Halves}

-- where there is no plan within mid there is none within less
pub none_below : (P : Problem) (mid : ℕ) → NoPlan P mid → (c : ℕ) → c < mid + 1 → NoPlan P c
none_below P mid n c l z v = n z (wider P c mid z (omega arith) v)

-- ── one bound ──

module _ {L K : List ℕ} {bound x : ℕ} (d : Sets L 852 x K) (z : x ≡ bound) (v : Served L bound) where
  -- lists with the bound set are those of the problem at it
  pub lent_at : (P : Problem) → Listed L P → Lent K (record { problem = P; bound = bound })
  lent_at P t = subst (λ (y : ℕ). Lent K (record { problem = P; bound = y })) z (rebound_lent d P t (omega (arith, v.short)))

  pub some_lent : Some (Lent K)
  some_lent = (record { problem = v.served; bound = bound }, lent_at v.served v.listed)

  kept_at : SameLists L K
  kept_at = record { to = rebound_to d; back = rebound_back d }

  module _ (s : List ℕ) (f : (P : Search) → Lent K P → FitsAll P s) where
    none_at : ((P : Search) → Lent K P → Dead P (view s)) → NoneBelow L (bound + 1)
    none_at n P t = none_below P bound (dead_none _ (view s) (λ F b. f _ (lent_at P t) F b.ok) (n _ (lent_at P t)))

    pub any_at : {old new : List ℕ} {r : Bool} → Resolves (Lent K) s old new r → AnyAt L bound old K new r
    any_at a = record {
      some = λ e. record { valid = λ P t. (a.plan e _ (lent_at P t)).good; size = a.size e };
      none = λ e. none_at (λ P l. a.none e P l);
      same = a.same;
      kept = kept_at;
    }

    pub hopeless_at : {r : List ℕ} {ok : Bool} → SettledBy K s r ok → Hopeless L bound K (not ok)
    hopeless_at {ok = ok} a = record { none = λ e. none_at (λ P l. keeps_dead (a.prunes.keeps P l.listed.wf l) (a.rest.dead (not-true ok e) P l)); kept = kept_at }

-- ── lists of the same problems ──

pub kept_refl : (L : List ℕ) → SameLists L L
kept_refl L = record { to = λ P t. t; back = λ P t. t }

module _ {L K : List ℕ} (k : SameLists L K) where
  pub kept_trans : {M : List ℕ} → SameLists K M → SameLists L M
  kept_trans m = record { to = λ P t. m.to P (k.to P t); back = λ P t. k.back P (m.back P t) }

  pub kept_back : SameLists K L
  kept_back = record { to = k.back; back = k.to }

  pub served_to : {bound high : ℕ} → Served L high → bound ≤ high → Served K bound
  served_to v l = record { served = v.served; listed = k.to v.served v.listed; short = omega (arith, v.short) }

  pub none_to : {low : ℕ} → NoneBelow L low → NoneBelow K low
  none_to n P t = n P (k.back P t)

  pub some_to : {bound : ℕ} {starts : List ℕ} → SomeAt L bound starts → SomeAt K bound starts
  some_to w = record { valid = λ P t. w.valid P (k.back P t); size = w.size }

  pub held_to : {low high : ℕ} {starts : List ℕ} → Bracketed L low high starts → Bracketed K low high starts
  held_to h = record { none = none_to h.none; some = some_to h.some; within = h.within }

-- ── ends ──

pub end_next : (P : Problem) (s : Plan) (j e r start dur : ℕ) → s j ≡ start → P.duration j ≡ dur → LastEnd P s j e → Later start dur e r → LastEnd P s (j + 1) r
unfolding in_plan
end_next P s j e r start dur is long a k = record {
  after = λ i h t. ⊎_elim (λ m. omega (arith, a.after i m t, k.keeps))
      (λ m. subst (λ (x : ℕ). s x + P.duration x ≤ r) (sym m)
      (omega (arith, is, long, k.after (λ z. eqb_not (s j) 65535 (subst (λ (x : ℕ). T (not (eqb (s x) 65535))) m t) (is ∙ z))))) (below_suc i j (omega arith));
  least = λ b h. k.least b (a.least b (λ i m. h i (omega arith))) (λ n. omega (arith, is, long, h j (omega arith) (not_eqb (s j) 65535 (λ z. n (sym is ∙ z)))));
}

pub end_none : (P : Problem) (s : Plan) → LastEnd P s 0 0
end_none P s = record { after = λ i h. absurd (omega arith); least = λ b h. omega arith }

-- a valid plan is valid within its last end, which is in the bound
module _ (P : Problem) (ok : InOrder P) (s : Plan) (bound e : ℕ) (a : LastEnd P s P.count e) (v : Valid P bound s) where
  pub end_valid : Valid P e s
  end_valid = narrower P ok bound e s v (λ i k. a.after i k.below k.chosen)

  pub end_within : e ≤ bound
  end_within = a.least bound (λ i l t. v.inside i (record { below = l; chosen = t }))

-- ── the least bound ──

-- a bound with a plan is not below the range
not_below : (P : Problem) (low e : ℕ) (s : Plan) → ((c : ℕ) → c < low → NoPlan P c) → Valid P e s → low ≤ e
not_below P low e s n v = go (dec_lt e low)
  where
    go : Dec (e < low) → low ≤ e
    go (yes h) = absurd (n e h s v)
    go (no h) = omega arith

-- a range whose high end is that of a plan
held_at : {L starts : List ℕ} {low high b : ℕ} → Served L b → NoneBelow L low → SomeAt L high starts → Bracketed L low high starts
held_at {starts = starts} {low} {high} v n w = record { none = n; some = w; within = not_below v.served low high (plan_of starts) (n v.served v.listed) (w.valid v.served v.listed) }

pub probes_up : {L K : List ℕ} {low high mid : ℕ} {r : Bool} → Hopeless L mid K r → r ≡ true → low ≤ mid → mid < high → Probes L low high K (record { low = mid + 1; high = high })
probes_up h e l m = record { none = λ n. h.none e; within = omega arith; top = omega arith; less = omega arith; kept = h.kept }

pub probes_down : {L K : List ℕ} {low high mid : ℕ} {r : Bool} → Hopeless L mid K r → low ≤ mid → mid < high → Probes L low high K (record { low = low; high = mid })
probes_down h l m = record { none = λ n. n; within = omega arith; top = omega arith; less = omega arith; kept = h.kept }

module _ {L K old new : List ℕ} {bound : ℕ} {r : Bool} (d : AnyAt L bound old K new r) where
  -- a plan that is found is valid within its last end, which is in the bound
  module _ {e : ℕ} (h : r ≡ true) (ends : (P : Problem) → Listed K P → LastEnd P (plan_of new) P.count e) where
    ends_some : SomeAt L e new
    ends_some = record { valid = λ P t. end_valid P t.wf (plan_of new) bound e (ends P (d.kept.to P t)) ((d.some h).valid P t); size = (d.some h).size }

    pub ends_within : Served L bound → e ≤ bound
    ends_within v = end_within v.served v.listed.wf (plan_of new) bound e (ends v.served (d.kept.to v.served v.listed)) ((d.some h).valid v.served v.listed)

    pub ends_held : {low : ℕ} → Served L bound → NoneBelow L low → Bracketed L low e new
    ends_held v n = held_at v n ends_some

    pub halves_down : {low high : ℕ} → Served L bound → bound < high → NoneBelow L low → Halves L low high K new (record { low = low; high = e })
    halves_down v m n =
        let w = ends_held v n in
        record { held = w; top = omega (arith, ends_within v); less = omega (arith, ends_within v, w.within); kept = d.kept }

  pub halves_up : {low high : ℕ} → r ≡ false → low ≤ bound → bound < high → Bracketed L low high old → Halves L low high K new (record { low = bound + 1; high = high })
  halves_up {high = high} e l m w = record {
    held = record { none = d.none e; some = subst (λ (s : List ℕ). SomeAt L high s) (sym (d.same e)) w.some; within = omega arith };
    top = le_refl high;
    less = omega arith;
    kept = d.kept;
  }
