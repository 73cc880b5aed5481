-- Interference in 01's words, the order of interfering jobs in a plan without overlap, and arrival.
-- Assumes nothing.
use mathlib.Core.Path.{◌≡◌, refl, sym, subst}
use mathlib.Core.Logic.{◌⊎◌, inl, inr, ◌≢◌, ◌↔◌, ⊎_elim}
use mathlib.Core.Bool.{Bool, true, false, not, ◌&&◌, ◌||◌, cond}
use Prim.Native.Nat.{ℕ, ◌<◌}
use native.Mathlib.Omega.{arith}
use lib.Dec.{T, eqb}
use Rattle.facts.specs.Facts.{has}
use Rattle.facts.specs.Least.{any}
use Rattle.facts.proofs.Bools.{and_l, and_r, and_of, or_cases, or_l, eqb_not, not_eqb}
use Rattle.facts.proofs.Least.{any_of, any_at, any_same, least_same}
use Rattle.rules.specs.declared.Clash.{Clash}
use Rattle.rules.specs.declared.Clash.TheVariants.{None, Condition, Addition}
use Rattle.rules.specs.declared.ClashNumbers.{ClashNumbers}
use Rattle.rules.specs.Table.{Problem, needs}
use Rattle.rules.specs.Clashes.{Masks, spoils, on_condition, on_addition, clash_of, numbers, masks_of, interfere}
use Rattle.rules.specs.Premises.{InOrder, adds, deletes}
use Rattle.rules.specs.Plans.{Plan, In, finish, Over, Apart, holds}
use Rattle.rules.proofs.Time.{arrives}

-- i deletes a fact below 64, a condition or an addition of j
pub record Spoils (P : Problem) (i j : ℕ) : Type 0 where
  pub fact : ℕ
  pub below : fact < 64
  pub gone : deletes P i fact
  pub wanted : needs P j fact ⊎ adds P j fact

-- interference as 01 has it
abbrev pub Interfere : Problem → ℕ → ℕ → Type 0
Interfere P i j = (i ≢ j) × (Spoils P i j ⊎ Spoils P j i)

-- ── two jobs ──

-- what is said of two tests, as numbers
abbrev said : (condition? addition? : Bool) (p q : ℕ) → ClashNumbers
said c a p q = numbers (cond c (Condition p) (cond a (Addition q) None))

said_some : (c a : Bool) (p q : ℕ) → T (not (eqb (said c a p q).kind 0)) → T c ⊎ T a
said_some true a p q h = inl tt
said_some false true p q h = inr tt
said_some false false p q h = absurd h

some_said : (c a : Bool) (p q : ℕ) → T c ⊎ T a → T (not (eqb (said c a p q).kind 0))
some_said true a p q h = tt
some_said false true p q h = tt
some_said false false p q (inl h) = h
some_said false false p q (inr h) = h

swap : (x y : Bool) → (x || y) ≡ (y || x)
swap true true = refl
swap true false = refl
swap false true = refl
swap false false = refl

spoils_flip : (w : Masks → ℕ) (a b : Masks) (p : ℕ) → spoils w a b p ≡ spoils w b a p
unfolding spoils
spoils_flip w a b p = swap (has a.deletions p && has (w b) p) (has b.deletions p && has (w a) p)

-- the clash is the same either way round
pub clash_flip : (a b : Masks) → clash_of a b ≡ clash_of b a
unfolding clash_of
clash_flip a b = rw (
  any_same (on_condition a b) (on_condition b a) 64 (λ p l. spoils_flip (λ m. m.conditions) a b p),
  any_same (on_addition a b) (on_addition b a) 64 (λ p l. spoils_flip (λ m. m.additions) a b p),
  least_same (on_condition a b) (on_condition b a) 64 (λ p l. spoils_flip (λ m. m.conditions) a b p),
  least_same (on_addition a b) (on_addition b a) 64 (λ p l. spoils_flip (λ m. m.additions) a b p),
)

module _ (P : Problem) where
  -- a fact that one deletes, in the word of the other, by what that word says
  spoils_at : (w : Masks → ℕ) (i j : ℕ) → ((k p : ℕ) → T (has (w (masks_of P k)) p) → needs P k p ⊎ adds P k p)
      → T (any (spoils w (masks_of P i) (masks_of P j)) 64) → Spoils P i j ⊎ Spoils P j i
  unfolding spoils
  spoils_at w i j f h =
      let y = any_at (spoils w (masks_of P i) (masks_of P j)) 64 h in
      ⊎_elim (λ x. inl (one i j y.0 y.1 x)) (λ x. inr (one j i y.0 y.1 x)) (or_cases (has (P.deletions i) y.0 && has (w (masks_of P j)) y.0) _ y.2)
    where
      one : (d k p : ℕ) → p < 64 → T (has (P.deletions d) p && has (w (masks_of P k)) p) → Spoils P d k
      one d k p l x = record { fact = p; below = l; gone = and_l (has (P.deletions d) p) _ x; wanted = f k p (and_r (has (P.deletions d) p) _ x) }

  pub interfere_at : (i j : ℕ) → T (interfere P i j) → Interfere P i j
  unfolding interfere clash_of
  interfere_at i j h = (
    eqb_not i j (and_l (not (eqb i j)) _ h),
    ⊎_elim (spoils_at (λ m. m.conditions) i j (λ k p x. inl x)) (spoils_at (λ m. m.additions) i j (λ k p x. inr x)) (said_some (any (on_condition (masks_of P i) (masks_of P j)) 64) (any (on_addition (masks_of P i) (masks_of P j)) 64) _ _ (and_r (not (eqb i j)) _ h)),
  )

  pub flip : (i j : ℕ) → T (interfere P i j) → T (interfere P j i)
  unfolding interfere
  flip i j h =
      and_of (not (eqb j i)) _ (not_eqb j i (λ e. eqb_not i j (and_l (not (eqb i j)) _ h) (sym e)))
      (subst (λ (c : Clash). T (not (eqb (numbers c).kind 0))) (clash_flip (masks_of P i) (masks_of P j)) (and_r (not (eqb i j)) _ h))

  -- a job that deletes a condition or an addition of another interferes with it
  pub interfere_of : (i j : ℕ) → i ≢ j → Spoils P i j → T (interfere P i j)
  unfolding interfere clash_of spoils
  interfere_of i j ne x = and_of (not (eqb i j)) _ (not_eqb i j ne) (some_said (any (on_condition (masks_of P i) (masks_of P j)) 64) (any (on_addition (masks_of P i) (masks_of P j)) 64) _ _ (go x.wanted))
    where
      hit : (w : Masks → ℕ) → T (has (w (masks_of P j)) x.fact) → T (any (spoils w (masks_of P i) (masks_of P j)) 64)
      hit w h = any_of (spoils w (masks_of P i) (masks_of P j)) 64 x.fact x.below
          (or_l (has (P.deletions i) x.fact && has (w (masks_of P j)) x.fact) _ (and_of (has (P.deletions i) x.fact) _ x.gone h))

      go : needs P j x.fact ⊎ adds P j x.fact → T (any (on_condition (masks_of P i) (masks_of P j)) 64) ⊎ T (any (on_addition (masks_of P i) (masks_of P j)) 64)
      go (inl h) = inl (hit (λ m. m.conditions) h)
      go (inr h) = inr (hit (λ m. m.additions) h)

  -- two different jobs interfere exactly where one deletes a condition or an addition of the other
  pub interfere_is : (i j : ℕ) → T (interfere P i j) ↔ Interfere P i j
  interfere_is i j = (interfere_at i j, λ x. ⊎_elim (interfere_of i j x.0) (λ y. flip j i (interfere_of j i (λ e. x.0 (sym e)) y)) x.1)

  module _ (ok : InOrder P) where
    -- a deleter interferes with another job that needs or adds the fact
    pub clash : (d j p : ℕ) → d < P.count → d ≢ j → deletes P d p → needs P j p ⊎ adds P j p → T (interfere P d j)
    clash d j p l ne x y = interfere_of d j ne (record { fact = p; below = ok.deleted d l p x; gone = x; wanted = y })

    pub differ : (d a p : ℕ) → a < P.count → adds P a p → deletes P d p → d ≢ a
    differ d a p l x y e = ok.pure a p l x (rw e at y)

    module _ (s : Plan) (apart : Apart P s) where
      -- two jobs of the plan, of which one deletes what the other adds or needs, stand one after the other
      pub ordered : (d j p : ℕ) → In P s d → In P s j → d ≢ j → deletes P d p → needs P j p ⊎ adds P j p → Over P s d j ⊎ Over P s j d
      ordered d j p i k ne x y = apart d j i k (clash d j p i.below ne x y)

      -- law 2, arrival: an adder and a deleter of one fact do not finish together, so the fact is there at the adder's finish
      pub given : (p a : ℕ) → In P s a → adds P a p → T (holds P s p (finish P s a))
      given p a k y = arrives P s p a (ok.long a k.below) k y lone
        where
          lone : (d : ℕ) → In P s d → deletes P d p → finish P s d ≡ finish P s a → ⊥
          lone d i x e = go (ordered d a p i k (differ d a p k.below y x) x (inr y))
            where
              go : Over P s d a ⊎ Over P s a d → ⊥
              go (inl h) = omega (arith, ok.long a k.below)
              go (inr h) = omega (arith, ok.long d i.below)
