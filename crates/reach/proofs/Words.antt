-- The words of e-deletion.
-- Assumes nothing.
use mathlib.Core.Path.{◌≡◌, refl, sym, ap, ◌∙◌, subst}
use mathlib.Core.Logic.{◌⊎◌, inl, inr, ◌↔◌}
use mathlib.Core.Bool.{Bool, not, ◌&&◌, ◌||◌}
use mathlib.Core.List.{List}
use Prim.Native.Nat.{ℕ, ◌≤◌, ◌<◌}
use native.Mathlib.Decide.{dec_le, dec_lt}
use native.Mathlib.Omega.{arith}
use lib.Dec.{T, T_not, not_T}
use lib.ListN.{length, get_or, get_or-eq_default}
use Rattle.facts.specs.Facts.{has}
use Rattle.facts.specs.Words.{Word, Covers, Decides}
use Rattle.facts.proofs.Bools.{and_l, and_r, and_of, or_cases, or_l, or_r, passes, decides_true}
use Rattle.facts.proofs.Sets.{has_zero, one_fails}
use Rattle.rules.specs.Table.{Problem}
use Rattle.rules.specs.Premises.{InOrder, adds}
use Rattle.tables.specs.declared.Action.{Action}
use Rattle.tables.specs.declared.Loaded.{Loaded}
use Rattle.tables.specs.declared.Ask.{Ask}
use Rattle.tables.specs.Tables.{no_job, job_at, problem}
use Rattle.reach.specs.Reach.{Closed, EDeletes, outright, by_adding, by_needing, Takes, EWords}
use Rattle.reach.specs.Rows.{in_rows, FitIn, Seen, StayBeside, Barred, Gone, deleting, EJob, EDone}
use Rattle.reach.proofs.Laws.{in_range_lem}

-- a word without the facts of another
module _ (x y r : ℕ) (w : Word (λ p. has x p && not (has y p)) r) (p : ℕ) where
  less : T (has r p) → T (has x p) × (T (has y p) → ⊥)
  less h = let z = subst T (w p) h in (and_l (has x p) _ z, T_not (has y p) (and_r (has x p) _ z))

  kept : T (has x p) → (T (has y p) → ⊥) → T (has r p)
  kept h n = subst T (sym (w p)) (and_of (has x p) _ h (not_T (has y p) n))

module _ (rows : List ℕ) (size : length rows ≡ 64) where
  -- what can hold and is not reachable with all of w
  pub barred_is : (w x y r : ℕ) → StayBeside rows 0 0 64 x → StayBeside rows w 0 64 y → Word (λ p. has x p && not (has y p)) r → (p : ℕ) → Decides (has r p) (Barred rows w p)
  barred_is w x y r all both e p = record { yea = λ h. there (less x y r e p (subst T (sym h) tt)); nay = λ h z. subst T h (back z) }
    where
      seen : (w : ℕ) → T (in_rows rows p p) → Covers (get_or rows p 0) w → Seen (get_or rows p 0) w 0 p
      seen w h c = record { stays = has_zero p; itself = h; all = c }

      there : T (has x p) × (T (has y p) → ⊥) → Barred rows w p
      there (h, n) = let i = (all.sound p h).itself in (i, λ c. n (both.whole p (in_range_lem rows size p p i) (seen w i c)))

      back : Barred rows w p → T (has r p)
      back (i, n) = kept x y r e p (all.whole p (in_range_lem rows size p p i) (seen 0 i (λ q z. absurd (has_zero q z)))) (λ z. n (both.sound p z).all)

module _ (rows : List ℕ) (a : Action) where
  abbrev Away : ℕ → Type 0
  Away p = Gone rows a.conditions a.additions a.deletions p

  pub ejob_not : (FitIn rows a.conditions 64 → ⊥) → EJob rows a a
  ejob_not n = record { rest = refl; gone = λ p. (λ h. inl h, back p) }
    where
      back : (p : ℕ) → Away p → T (has a.deletions p)
      back p (inl h) = h
      back p (inr (f, h)) = absurd (n f)

  pub ejob_fit : (x y z u r : ℕ) → FitIn rows a.conditions 64 → ((p : ℕ) → Decides (has x p) (Barred rows a.conditions p)) → Word (λ p. has x p && not (has a.additions p)) y → ((p : ℕ) → Decides (has z p) (Barred rows a.additions p)) → Word (λ p. has z p || has y p) u → Word (λ p. has a.deletions p || has u p) r → EJob rows a (deleting a r)
  ejob_fit x y z u r f bc e ba g h = record { rest = refl; gone = λ p. (λ k. first p (or_cases (has a.deletions p) _ (subst T (h p) k)), back p) }
    where
      says : {b : Bool} {X : Type 0} → Decides b X → X → T b
      says k m = subst T (sym (decides_true k m)) tt

      more : (p : ℕ) → T (has z p || has y p) → T (has r p)
      more p k = subst T (sym (h p)) (or_r (has a.deletions p) _ (subst T (sym (g p)) k))

      back : (p : ℕ) → Away p → T (has r p)
      back p (inl k) = subst T (sym (h p)) (or_l (has a.deletions p) _ k)
      back p (inr (m, inl k)) = more p (or_l (has z p) _ (says (ba p) k))
      back p (inr (m, inr (k, n))) = more p (or_r (has z p) _ (kept x a.additions y e p (says (bc p) k) n))

      second : (p : ℕ) → T (has z p) ⊎ T (has y p) → Away p
      second p (inl k) = inr (f, inl ((ba p).yea (sym (passes (has z p) k))))
      second p (inr k) = let m = less x a.additions y e p k in inr (f, inr ((bc p).yea (sym (passes (has x p) m.0)), m.1))

      first : (p : ℕ) → T (has a.deletions p) ⊎ T (has u p) → Away p
      first p (inl k) = inl k
      first p (inr k) = second p (or_cases (has z p) _ (subst T (g p) k))

-- ── a table of such jobs ──

-- some fact of the word is not in the row
lacking : (row w : ℕ) → ((p : ℕ) → T (has w p) → p < 64) → (Covers row w → ⊥) → (q : ℕ) × T (has w q) × (T (has row q) → ⊥)
lacking row w low n = go (one_fails w (has row) low)
  where
    go : ((q : ℕ) × T (has w q) × (T (has row q) → ⊥)) ⊎ Covers row w → (q : ℕ) × T (has w q) × (T (has row q) → ⊥)
    go (inl y) = y
    go (inr y) = absurd (n y)

module _ (P : Problem) (ok : InOrder P) (rows : List ℕ) (c : Closed P (in_rows rows)) (i : ℕ) (l : i < P.count) (p : ℕ) where
  abbrev Lost : Type 0
  Lost = Gone rows (P.conditions i) (P.additions i) (P.deletions i) p

  takes_of : Lost → Takes P (in_rows rows) i p
  takes_of (inl h) = inl h
  takes_of (inr (f, how)) = inr (λ r u x y. f r (ok.needed i l r x) x u y, able how, lost how)
    where
      How : Type 0
      How = Barred rows (P.additions i) p ⊎ (Barred rows (P.conditions i) p × (adds P i p → ⊥))

      able : How → T (in_rows rows p p)
      able (inl (h, n)) = h
      able (inr ((h, n), m)) = h

      lost : How → EDeletes P (in_rows rows) i p
      lost (inl (h, n)) = let y = lacking (get_or rows p 0) (P.additions i) (ok.added i l) n in by_adding y.0 y.1 (λ z. y.2 (c.swaps y.0 p z))
      lost (inr ((h, n), m)) = let y = lacking (get_or rows p 0) (P.conditions i) (ok.needed i l) n in by_needing y.0 y.1 (λ z. y.2 (c.swaps y.0 p z)) m

  of_takes : Takes P (in_rows rows) i p → Lost
  of_takes (inl h) = inl h
  of_takes (inr (f, h, outright x)) = inl x
  of_takes (inr (f, h, by_adding q y n)) = inr (λ r m x u z. f r u x z, inl (h, λ k. n (c.swaps p q (k q y))))
  of_takes (inr (f, h, by_needing q y n a)) = inr (λ r m x u z. f r u x z, inr ((h, λ k. n (c.swaps p q (k q y))), a))

  pub takes_is : (r : ℕ) → T (has r p) ↔ Lost → T (has r p) ↔ Takes P (in_rows rows) i p
  takes_is r e = (λ h. takes_of (e.0 h), λ h. e.1 (of_takes h))

module _ (rows : List ℕ) (l : Loaded) where
  -- place i of a table whose jobs below n delete what they take away
  abbrev pub Turned : (n i : ℕ) → Action → Type 0
  Turned n i a = (i < n → EJob rows (job_at l i) a) × (n ≤ i → a ≡ job_at l i)

  pub edone_all : (n : ℕ) → n ≤ 24 → (new : List Action) → length l.jobs ≡ 24 → length new ≡ 24 → ((i : ℕ) → i < 24 → Turned n i (get_or new i no_job)) → EDone rows l n (record { jobs = new; lent = l.lent })
  edone_all n t new e f h = record { size = f; lent = refl; below = λ i m. (h i (omega arith)).0 m; past = λ i m. past i m (dec_lt i 24) }
    where
      past : (i : ℕ) → n ≤ i → Dec (i < 24) → get_or new i no_job ≡ job_at l i
      past i m (yes k) = (h i k).1 m
      past i m (no k) = get_or-eq_default new no_job (omega (arith, f)) ∙ sym (get_or-eq_default l.jobs no_job (omega (arith, e)))

  -- but for their deletions the jobs are the same
  pub edone_rest : (n : ℕ) (r : Loaded) → EDone rows l n r → (i : ℕ) → job_at r i ≡ deleting (job_at l i) (job_at r i).deletions
  edone_rest n r d i = go (dec_le n i)
    where
      go : Dec (n ≤ i) → job_at r i ≡ deleting (job_at l i) (job_at r i).deletions
      go (yes m) = let e = d.past i m in e ∙ ap (λ (a : Action). deleting (job_at l i) a.deletions) (sym e)
      go (no m) = (d.below i (omega arith)).rest

-- the table's words are those that the rules ask for
pub edone_words : (l : Loaded) (q : Ask) (rows : List ℕ) (r : Loaded) → InOrder (problem l q) → Closed (problem l q) (in_rows rows) → EDone rows l q.jobs r → EWords (problem l q) (in_rows rows) (λ i. (job_at r i).deletions)
edone_words l q rows r ok c d i p h = takes_is (problem l q) ok rows c i h p _ ((d.below i h).gone p)
