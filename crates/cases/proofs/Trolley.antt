-- In P8 the trolley is never in both houses: facts 0 and 1 exclude each other.
-- Assumes nothing.
use mathlib.Core.Path.{◌≡◌, refl, sym, subst}
use mathlib.Core.Bool.{not}
use Prim.Native.Nat.{ℕ, zero, suc, ◌+◌, ◌^◌, ◌<◌}
use native.Mathlib.Omega.{arith}
use lib.Dec.{T, eqb, eqb→eq}
use Rattle.facts.specs.Facts.{has}
use Rattle.facts.specs.Least.{least, any}
use Rattle.facts.proofs.Bools.{eqb_of, eqb_not, not_eqb}
use Rattle.facts.proofs.Sets.{has_pow}
use Rattle.refusals.specs.Refusals.{refuse_if, refuse_at, refuse_for}
use Rattle.rules.specs.Table.{table_checks, job_checks, between, job_strays, strays, undoes}
use Rattle.rules.specs.Premises.{InOrder, adds, deletes}
use Rattle.rules.specs.Plans.{Plan, holds, Valid}
use Rattle.rules.proofs.Checked.{in_order}
use Rattle.tables.specs.Tables.{unmarked}
use Rattle.cases.specs.Jobs.{facts}
use Rattle.cases.specs.Cases.{trolley}
use Rattle.reach.specs.Reach.{PairSet, Closed, Reachable, Exact, EDeletes, by_needing}
use Rattle.reach.proofs.States.{no_unreachable}

-- every pair but that of the two houses
abbrev others : PairSet
others p q = not (eqb (p + q) 1)

other : (p q : ℕ) → (p + q ≡ 1 → ⊥) → T (others p q)
other p q n = not_eqb (p + q) 1 n

only : (k p : ℕ) → T (has (2 ^ k) p) → p ≡ k
only k p h = eqb→eq p k (subst T (has_pow k p) h)

itself : (k p : ℕ) → p ≡ k → T (has (2 ^ k) p)
itself k p e = subst T (sym (has_pow k p)) (eqb_of e)

both : (i p q : ℕ) → i < 4 → adds trolley i p → adds trolley i q → T (others p q)
unfolding facts
both zero p q l a b = other p q (λ e. omega (arith, only 1 p a, only 1 q b))
both (suc zero) p q l a b = other p q (λ e. omega (arith, only 0 p a, only 0 q b))
both (suc (suc zero)) p q l a b = other p q (λ e. omega (arith, only 2 p a))
both (suc (suc (suc zero))) p q l a b = other p q (λ e. omega (arith, only 3 p a))
both (suc (suc (suc (suc i)))) p q l a b = absurd (omega arith)

beside : (i p q : ℕ) → i < 4 → adds trolley i p → (deletes trolley i q → ⊥) → T (others p q)
unfolding facts
beside zero p q l a n = other p q (λ e. n (itself 0 q (omega (arith, only 1 p a))))
beside (suc zero) p q l a n = other p q (λ e. n (itself 1 q (omega (arith, only 0 p a))))
beside (suc (suc zero)) p q l a n = other p q (λ e. omega (arith, only 2 p a))
beside (suc (suc (suc zero))) p q l a n = other p q (λ e. omega (arith, only 3 p a))
beside (suc (suc (suc (suc i)))) p q l a n = absurd (omega arith)

closed : Closed trolley others
unfolding facts
closed = record {
  swaps = λ p q h. other q p (λ e. eqb_not (p + q) 1 h (omega arith));
  opens = λ p q x y. other p q (λ e. omega (arith, only 0 p x, only 0 q y));
  both = λ i p q l f a b. both i p q l a b;
  beside = λ i p q l f a n h k. beside i p q l a n;
}

pub houses_exclude : Reachable trolley 0 1 → ⊥
houses_exclude h = h others closed

ordered : InOrder trolley
unfolding table_checks job_checks between job_strays strays undoes refuse_if refuse_at refuse_for any least has facts unmarked
ordered = in_order trolley refl

-- so no state of a valid plan has it in both
pub one_house : (bound : ℕ) (s : Plan) → Valid trolley bound s → (t : ℕ) → T (holds trolley s 0 t) → T (holds trolley s 1 t) → ⊥
one_house bound s v t x y = houses_exclude (no_unreachable trolley ordered bound s v t 0 1 x y)

-- and pick, which deletes nothing and needs it in the first, e-deletes that it is in the second
pub pick_e_deletes : (S : PairSet) → Exact trolley S → EDeletes trolley S 3 1
unfolding has facts
pick_e_deletes S x = by_needing 0 tt (λ h. houses_exclude (x.least 0 1 h)) (λ a. a)
