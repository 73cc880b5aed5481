-- Walks over the facts of a word: lowering their costs, and finding the greatest.
-- Assumes nothing.
use mathlib.Core.Path.{◌≡◌, refl, sym, ap, subst, ◌∙◌}
use mathlib.Core.Logic.{◌⊎◌, inl, inr, ⊎_elim}
use mathlib.Core.Bool.{Bool, true, false, cond, not, ◌&&◌, ◌||◌}
use mathlib.Core.List.{List}
use Prim.Native.Nat.{ℕ, ◌≤◌, ◌<◌, ◌^◌, min, max}
use native.Mathlib.Omega.{arith}
use lib.Dec.{T, T_not, eqb, eqb→eq, ltb, ltb→lt}
use Rattle.facts.specs.Facts.{has}
use Rattle.facts.specs.Least.{least, any}
use Rattle.facts.specs.Words.{Covers}
use Rattle.facts.specs.Walks.{Walk}
use Rattle.facts.proofs.Bools.{T?, and_l, and_r, and_of, or_cases, or_l, certain, at_most, eqb_of}
use Rattle.facts.proofs.Bools as bools
use Rattle.facts.proofs.Sets.{has_lt}
use Rattle.facts.proofs.Least.{any_of, any_at}
use Rattle.facts.proofs.Walks.{Over, over_all, over_next, over_here, Done, done_none, done_next, done_map, done_all}
use Rattle.rules.proofs.Sums.{cond_yes, cond_no}
use Rattle.entries.specs.Entries.{entry}
use Rattle.estimates.specs.Rounds.{greatest, Lowers, at_first}
use Rattle.estimates.proofs.Laws.{greatest_ge, greatest_le, ltb_more, cond_low}

-- ── all conditions are open ──

module _ (conditions opening release : ℕ) where
  abbrev closed : ℕ → Bool
  closed p = has conditions p && not (has opening p)

  pub first_yes : Covers opening conditions → release ≡ at_first conditions opening release
  first_yes h = sym (cond_no (any closed 64) 65535 release
      (λ t. let z = any_at closed 64 t in T_not (has opening z.0) (and_r (has conditions z.0) _ z.2) (h z.0 (and_l (has conditions z.0) _ z.2))))

  pub first_no : conditions < 2 ^ 64 → (Covers opening conditions → ⊥) → 65535 ≡ at_first conditions opening release
  first_no l n = ⊎_elim (λ y. sym (cond_yes (any closed 64) 65535 release y))
      (λ x. absurd (n (λ p h. certain (has opening p) (λ t. x (any_of closed 64 p (has_lt 64 conditions p l h) (and_of (has conditions p) _ h t)))))) (T? (any closed 64))

-- ── one fact ──

-- nothing is lowered, nothing got cheaper
word_same : (a : Bool) (x : ℕ) → a ≡ (a || ltb x x)
word_same a x = bools.same a (a || ltb x x) (λ t. or_l a (ltb x x) t) (λ t. ⊎_elim (λ h. h) (λ h. absurd (omega (arith, ltb→lt x x h))) (or_cases a (ltb x x) t))

-- ── all facts of a word ──

or_assoc : (a b c : Bool) → ((a || b) || c) ≡ (a || (b || c))
or_assoc true b c = refl
or_assoc false b c = refl

-- of the facts of w those of v are still to be lowered
pub record Lowering (w c cheaper : ℕ) (old now : List ℕ) (all v : ℕ) : Type 0 where
  pub over : Over 64 w v
  pub done : Done (λ p. p < 64 → entry now p ≡ min c (entry old p)) w v
  pub only : (p : ℕ) → p < 64 → (entry now p ≡ entry old p) ⊎ (T (has w p) × (entry now p ≡ min c (entry old p)))
  pub word : (p : ℕ) → p < 64 → has all p ≡ (has cheaper p || ltb (entry now p) (entry old p))

pub lowering_none : (w c cheaper : ℕ) (old : List ℕ) → w < 2 ^ 64 → Lowering w c cheaper old old cheaper w
lowering_none w c cheaper old l = record { over = over_all l; done = done_none; only = λ p m. inl refl; word = λ p m. word_same (has cheaper p) (entry old p) }

module _ (w c cheaper : ℕ) (old now : List ℕ) (all v : ℕ) (h : Lowering w c cheaper old now all v) where
  pub lowering_next : (p : ℕ) (new : List ℕ) (r rest : ℕ) → (v ≡ 0 → ⊥) → p ≡ least (has v) 64 → Lowers (λ f. eqb f p) c all now new r → Walk 64 v rest → Lowering w c cheaper old new r rest
  lowering_next p new r rest n e d k = record {
    over = over_next h.over k;
    done = done_next (done_map still h.done) k (λ m. subst (λ (f : ℕ). entry new f ≡ min c (entry old f)) e (here (rw e m)));
    only = λ f m. is f m (T? (eqb f p)) (h.only f m);
    word = λ f m. d.cheaper f m ∙ ap (λ (b : Bool). b || ltb (entry new f) (entry now f)) (h.word f m) ∙ or_assoc (has cheaper f) (ltb (entry now f) (entry old f)) (ltb (entry new f) (entry now f))
        ∙ ap (λ (b : Bool). has cheaper f || b) (ltb_more (entry old f) (entry now f) (entry new f) (low f m) (omega (arith, d.costs f m, cond_low (eqb f p) c (entry now f))));
  }
    where
      low : (f : ℕ) → f < 64 → entry now f ≤ entry old f
      low f m = ⊎_elim (λ x. omega arith) (λ x. omega (arith, x.1)) (h.only f m)

      still : (f : ℕ) → (f < 64 → entry now f ≡ min c (entry old f)) → f < 64 → entry new f ≡ min c (entry old f)
      still f x m = d.costs f m ∙ go (T? (eqb f p)) (x m)
        where
          go : T (eqb f p) ⊎ (T (eqb f p) → ⊥) → entry now f ≡ min c (entry old f) → cond (eqb f p) (min c (entry now f)) (entry now f) ≡ min c (entry old f)
          go (inl y) q = cond_yes (eqb f p) (min c (entry now f)) (entry now f) y ∙ omega arith
          go (inr y) q = cond_no (eqb f p) (min c (entry now f)) (entry now f) y ∙ q

      -- of the fact itself, whether it was lowered before or not
      both : (f : ℕ) → (entry now f ≡ entry old f) ⊎ (T (has w f) × (entry now f ≡ min c (entry old f))) → min c (entry now f) ≡ min c (entry old f)
      both f (inl x) = ap (min c) x
      both f (inr x) = omega (arith, x.1)

      here : p < 64 → entry new p ≡ min c (entry old p)
      here m = d.costs p m ∙ cond_yes (eqb p p) (min c (entry now p)) (entry now p) (eqb_of {m = p} refl) ∙ both p (h.only p m)

      is : (f : ℕ) → f < 64 → T (eqb f p) ⊎ (T (eqb f p) → ⊥) → (entry now f ≡ entry old f) ⊎ (T (has w f) × (entry now f ≡ min c (entry old f)))
          → (entry new f ≡ entry old f) ⊎ (T (has w f) × (entry new f ≡ min c (entry old f)))
      is f m (inl y) x =
          let q : f ≡ p = eqb→eq f p y in
          inr (rw q (over_here h.over n e), d.costs f m ∙ cond_yes (eqb f p) (min c (entry now f)) (entry now f) y ∙ both f x)
      is f m (inr y) x =
          let s : entry new f ≡ entry now f = d.costs f m ∙ cond_no (eqb f p) (min c (entry now f)) (entry now f) y in
          ⊎_elim (λ z. inl (s ∙ z)) (λ z. inr (z.0, s ∙ z.1)) x

  pub lowering_all : v ≡ 0 → Lowers (has w) c cheaper old now all
  lowering_all e = record {
    costs = λ p m. go p m (T? (has w p)) (h.only p m);
    cheaper = h.word;
  }
    where
      go : (p : ℕ) → p < 64 → T (has w p) ⊎ (T (has w p) → ⊥) → (entry now p ≡ entry old p) ⊎ (T (has w p) × (entry now p ≡ min c (entry old p)))
          → entry now p ≡ cond (has w p) (min c (entry old p)) (entry old p)
      go p m (inl y) x = done_all h.done e p y m ∙ sym (cond_yes (has w p) (min c (entry old p)) (entry old p) y)
      go p m (inr n) (inl x) = x ∙ sym (cond_no (has w p) (min c (entry old p)) (entry old p) n)
      go p m (inr n) (inr x) = absurd (n x.0)

-- the facts of w but those of v cost `most` at most, and one costs as much
pub record Climbing (w : ℕ) (costs : List ℕ) (most v : ℕ) : Type 0 where
  pub over : Over 64 w v
  pub done : Done (λ p. entry costs p ≤ most) w v
  pub within : most ≤ greatest w costs 64

pub climbing_none : (w : ℕ) (costs : List ℕ) → w < 2 ^ 64 → Climbing w costs 0 w
climbing_none w costs l = record { over = over_all l; done = done_none; within = omega arith }

pub climbing_next : (w : ℕ) (costs : List ℕ) (most v p more rest : ℕ) → w < 2 ^ 64 → Climbing w costs most v → (v ≡ 0 → ⊥) → p ≡ least (has v) 64 → more ≡ max (entry costs p) most → Walk 64 v rest → Climbing w costs more rest
climbing_next w costs most v p more rest l h n e is k = record {
  over = over_next h.over k;
  done = done_next (done_map (λ f x. omega (arith, is)) h.done) k (subst (λ (f : ℕ). entry costs f ≤ more) e (omega (arith, is)));
  within = let t : T (has w p) = over_here h.over n e in omega (arith, is, h.within, greatest_ge w costs 64 p (has_lt 64 w p l t) t);
}

pub climbing_all : (w : ℕ) (costs : List ℕ) (most v : ℕ) → Climbing w costs most v → v ≡ 0 → most ≡ greatest w costs 64
climbing_all w costs most v h e = omega (arith, h.within, greatest_le w costs most 64 (λ p m t. done_all h.done e p t))
