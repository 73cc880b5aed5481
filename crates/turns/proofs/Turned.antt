-- A turn of a valid plan is valid; in the first plan the lowest job that is moved comes no later than its turn.
-- Assumes nothing.
use mathlib.Core.Path.{◌≡◌, sym, ap, subst, ◌∙◌}
use mathlib.Core.Logic.{◌⊎◌, inl, inr, ◌≢◌, ⊎_elim}
use Prim.Native.Nat.{ℕ, ◌≤◌, ◌<◌}
use native.Mathlib.Omega.{arith}
use native.Mathlib.Decide.{dec_lt}
use lib.Dec.{T, eqb}
use mathlib.Core.Bool.{not}
use Rattle.facts.specs.Facts.{has}
use Rattle.rules.specs.Table.{Problem, needs}
use Rattle.rules.specs.Premises.{InOrder, adds, deletes, Clear}
use Rattle.rules.specs.Plans.{Plan, in_plan, In, Over, Apart, Valid}
use Rattle.rules.specs.Supports.{Consumer, job, end, Support, start, nobody, by}
use Rattle.rules.specs.Order.{rank, First}
use Rattle.rules.proofs.Clashing.{Spoils, interfere_at, ordered}
use Rattle.rules.proofs.Supported.{Supports, Supported, Backed, backed, valid}
use Rattle.turns.specs.Turns.{Turn, turned, Moves}

module _ {P : Problem} (ok : InOrder P) {to back fact : ℕ → ℕ} (t : Turn P to back fact) where
  needs_to : (j p : ℕ) → j < P.count → needs P j p → needs P (to j) (fact p)
  needs_to j p l h = subst T (sym (t.conditions j p l (ok.needed j l p h))) h

  deletes_to : (j p : ℕ) → j < P.count → deletes P j p → deletes P (to j) (fact p)
  deletes_to j p l h = subst T (sym (t.deletions j p l (ok.deleted j l p h))) h

  adds_to : (j p : ℕ) → j < P.count → p < 64 → adds P j p → adds P (to j) (fact p)
  adds_to j p l m h = subst T (sym (t.additions j p l m)) h

  adds_from : (a p : ℕ) → a < P.count → p < 64 → adds P a (fact p) → adds P (back a) p
  adds_from a p l m h = subst T (t.additions (back a) p (t.from a l) m) (subst (λ (x : ℕ). T (has (P.additions x) (fact p))) (sym (t.forth a l)) h)

  differs : (i j : ℕ) → i < P.count → j < P.count → i ≢ j → to i ≢ to j
  differs i j l m ne e = ne (sym (t.again i l) ∙ (ap back e ∙ t.again j m))

  module _ (Q : Plan) where
    in_to : (j : ℕ) → In P (turned Q to) j → In P Q (to j)
    unfolding in_plan
    in_to j i = record { below = t.below j i.below; chosen = i.chosen }

    at_back : (a : ℕ) → a < P.count → Q (to (back a)) ≡ Q a
    at_back a l = ap Q (t.forth a l)

    in_from : (a : ℕ) → In P Q a → In P (turned Q to) (back a)
    unfolding in_plan
    in_from a i = record { below = t.from a i.below; chosen = subst (λ (x : ℕ). T (not (eqb x 65535))) (sym (at_back a i.below)) i.chosen }

    long_back : (a : ℕ) → a < P.count → P.duration (back a) ≡ P.duration a
    long_back a l = sym (t.duration (back a) (t.from a l)) ∙ ap P.duration (t.forth a l)

    over_to : (i j : ℕ) → i < P.count → Over P Q (to i) (to j) → Over P (turned Q to) i j
    over_to i j l o = omega (arith, t.duration i l)

    module _ (p : ℕ) (small : p < 64) (c d : Consumer) (other : (j : ℕ) → j < P.count → j ≢ d.me → to j ≢ c.me)
        (at : c.at ≡ d.at) (till : c.till ≡ d.till) (lag : c.lag ≡ d.lag) where
      clear_to : (gap from since : ℕ) → from ≡ since → Clear P Q (fact p) c gap from → Clear P (turned Q to) p d gap since
      clear_to gap from since e z k i x ne =
          ⊎_elim (λ o. inl (omega (arith, t.duration k i.below))) (λ o. inr (omega arith)) (z (to k) (in_to k i) (deletes_to k p i.below x) (other k i.below ne))

      supports_to : (x : Support) → Supports P Q (fact p) c x → Supported P (turned Q to) p d
      supports_to start (o, z) = (start, (subst T (t.opening p small) o, clear_to 0 0 0 (omega arith) z))
      supports_to nobody x = absurd x
      supports_to (by a) g =
          let l = g.there.below in (
            by (back a),
            record {
              there = in_from a g.there;
              gives = adds_from a p l small g.gives;
              before = omega (arith, at_back a l, long_back a l, g.before);
              clear = clear_to P.gap (Q a) (Q (to (back a))) (sym (at_back a l)) g.clear;
            },
          )

    module _ (bound : ℕ) (v : Backed P bound Q) where
      spoilt : (i j : ℕ) → In P (turned Q to) i → In P (turned Q to) j → i ≢ j → Spoils P i j → Over P (turned Q to) i j ⊎ Over P (turned Q to) j i
      spoilt i j k m ne x =
          let small : x.fact < 64 = ok.deleted i k.below x.fact x.gone in
          ⊎_elim (λ o. inl (over_to i j k.below o)) (λ o. inr (over_to j i m.below o))
          (ordered P ok Q v.apart (to i) (to j) (fact x.fact) (in_to i k) (in_to j m) (differs i j k.below m.below ne) (deletes_to i x.fact k.below x.gone)
          (⊎_elim (λ h. inl (needs_to j x.fact m.below h)) (λ h. inr (adds_to j x.fact m.below small h)) x.wanted))

      apart_to : Apart P (turned Q to)
      apart_to i j k m x = let y = interfere_at P i j x in
          ⊎_elim (λ h. spoilt i j k m y.0 h) (λ h. ⊎_elim inr inl (spoilt j i m k (λ e. y.0 (sym e)) h)) y.1

      backed_to : Backed P bound (turned Q to)
      backed_to = record {
        inside = λ i k. omega (arith, v.inside (to i) (in_to i k), t.duration i k.below);
        released = λ i k. omega (arith, v.released (to i) (in_to i k), t.release i k.below);
        apart = apart_to;
        ready = λ i p k n.
            let x = v.ready (to i) (fact p) (in_to i k) (needs_to i p k.below n) in
            supports_to p (ok.needed i k.below p n) (job P Q (to i)) (job P (turned Q to) i) (λ j l ne. differs j i l k.below ne)
            (omega arith) (omega (arith, t.duration i k.below)) (omega arith) x.0 x.1;
        reached = λ p n.
            let small = ok.wanted p n in
            let x = v.reached (fact p) (subst T (sym (t.goals p small)) n) in
            supports_to p small (end P bound) (end P bound) (λ j l ne e. omega (arith, t.below j l)) (omega arith) (omega arith) (omega arith) x.0 x.1;
      }

  -- a turn of a valid plan is valid
  pub valid_to : (bound : ℕ) (Q : Plan) → Valid P bound Q → Valid P bound (turned Q to)
  valid_to bound Q v = valid P ok bound (turned Q to) (backed_to Q bound (backed P ok bound Q v))

  -- in the first plan the lowest job moved comes no later than its turn
  pub first_to : (bound : ℕ) (F : Plan) (m : ℕ) → Moves P to m → First P bound F → rank (F m) ≤ rank (F (to m))
  first_to bound F m w f = go (dec_lt (rank (F (to m))) (rank (F m)))
    where
      go : Dec (rank (F (to m)) < rank (F m)) → rank (F m) ≤ rank (F (to m))
      go (yes l) = absurd (f.none (turned F to) (valid_to bound F f.ok) (record { at = m; below = w.below; same = λ j h. ap F (w.still j h); less = l }))
      go (no l) = omega arith
