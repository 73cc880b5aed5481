-- Named supports by words: Start takes its facts first, then each job what is left.
-- Assumes nothing.
use mathlib.Core.Path.{◌≡◌, refl, sym, ap, ap₂, ◌∙◌, subst}
use mathlib.Core.Bool.{Bool, true, false, not, ◌&&◌, and-true}
use Prim.Native.Nat.{ℕ, ◌+◌, ◌<◌}
use native.Mathlib.Omega.{arith}
use lib.Dec.{T, eqb→eq, T_not, not_T}
use Rattle.facts.specs.Facts.{has}
use Rattle.facts.specs.Words.{Word}
use Rattle.facts.specs.Least.{least, any}
use Rattle.facts.proofs.Bools.{and_l, and_r, and_of, same, eqb_of, and_neither}
use Rattle.facts.proofs.Least.{lowest, least_is, any_of, any_at, least_hit, any_more}
use Rattle.rules.specs.Table.{Problem}
use Rattle.rules.specs.Plans.{Plan}
use Rattle.rules.specs.Supports.{Consumer, start_fits, job_fits, name, named}
use Rattle.rules.specs.Pairs.{is_job}
use Rattle.named.specs.declared.Row.{Row}
use Rattle.named.specs.Named.{RowOf}

-- ── who is named ──

regroup : (w x a j : Bool) → (((w && x) && a) && j) ≡ (w && ((x && a) && j))
regroup true x a j = refl
regroup false x a j = refl

-- a is named where Start does not fit, no lower job does, and a does
is_named_lem : (S : Bool) (J : ℕ → Bool) (n a : ℕ) → a < n → is_job a (name S (any J n) (least J n)) ≡ ((not S && not (any J a)) && J a)
unfolding name is_job
is_named_lem true J n a l = refl
is_named_lem false J n a l = same _ _ (there (any J n) refl) back
  where
    there : (A : Bool) → any J n ≡ A → T (is_job a (name false A (least J n))) → T (not (any J a) && J a)
    there false e h = absurd h
    there true e h =
        let at : a ≡ least J n = eqb→eq a (least J n) h in
        and_of (not (any J a)) _ (not_T (any J a) (λ x. let y = any_at J a x in (lowest J n).first y.0 (omega (arith, y.1)) y.2))
        (rw at (least_hit J n (subst T (sym e) tt)).1)

    named_at : (A : Bool) → T A → a ≡ least J n → T (is_job a (name false A (least J n)))
    named_at true t e = eqb_of e
    named_at false t e = t

    back : T (not (any J a) && J a) → T (is_job a (name false (any J n) (least J n)))
    back h =
        let x : T (J a) = and_r (not (any J a)) _ h in
        named_at (any J n) (any_of J n a l x)
        (least_is J n a (record { within = omega arith; hit = λ m. x; first = λ i m y. T_not (any J a) (and_l (not (any J a)) _ h) (any_of J a i m y) }))

module _ (P : Problem) (s : Plan) (c : Consumer) (want : ℕ) where
  -- what is left of the wanted facts when Start and the jobs below k have taken theirs
  abbrev pub Left : (k w : ℕ) → Type 0
  Left k w = Word (λ p. (has want p && not (start_fits P s p c)) && not (any (job_fits P s p c) k)) w

  pub left_first : (w : ℕ) → Word (λ p. has want p && not (start_fits P s p c)) w → Left 0 w
  unfolding any least
  left_first w h p = h p ∙ sym (and-true _)

  pub left_more : (k w f v : ℕ) → Left k w → Word (λ p. job_fits P s p c k) f → Word (λ p. has w p && not (has f p)) v → Left (k + 1) v
  left_more k w f v l g h p =
      h p ∙ ap₂ (λ (x y : Bool). x && not y) (l p) (g p) ∙ and_neither (has want p && not (start_fits P s p c)) (any (job_fits P s p c) k) (job_fits P s p c k)
      ∙ ap (λ (x : Bool). (has want p && not (start_fits P s p c)) && not x) (sym (any_more (job_fits P s p c) k))

  -- job k takes the facts that are left and that it fits
  pub taken : (k w f v : ℕ) → k < P.count → Left k w → Word (λ p. job_fits P s p c k) f → Word (λ p. has w p && has f p) v
      → Word (λ p. has want p && is_job k (named P s p c)) v
  unfolding named
  taken k w f v m l g h p =
      h p ∙ ap₂ (λ (x y : Bool). x && y) (l p) (g p)
      ∙ regroup (has want p) (not (start_fits P s p c)) (not (any (job_fits P s p c) k)) (job_fits P s p c k)
      ∙ ap (λ (x : Bool). has want p && x) (sym (is_named_lem (start_fits P s p c) (job_fits P s p c) P.count k m))

-- ── a row as the rules say it ──

pub row_same : (P : Problem) (s : Plan) (c d : Consumer) (w : ℕ) (want : ℕ → Bool) (r : Row) → c ≡ d → Word want w → RowOf P s c (has w) r → RowOf P s d want r
row_same P s c d w want r e g h = record {
  start = λ p. same_row.start p ∙ ap (λ (x : Bool). x && start_fits P s p d) (g p);
  by = λ a l p. same_row.by a l p ∙ ap (λ (x : Bool). x && is_job a (named P s p d)) (g p);
}
  where
    same_row : RowOf P s d (has w) r
    same_row = subst (λ (x : Consumer). RowOf P s x (has w) r) e h
