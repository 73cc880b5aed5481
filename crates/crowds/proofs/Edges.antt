-- Last and first: a job beside a crowd that has no room for it.
-- Assumes nothing.
use mathlib.Core.Path.{◌≡◌}
use mathlib.Core.Logic.{inl, inr, ⊎_elim}
use mathlib.Core.List.{List, [], ◌∷◌}
use Prim.Native.Nat.{ℕ, ◌+◌, ◌≤◌, ◌<◌}
use native.Mathlib.Omega.{arith}
use lib.Dec.{T}
use Rattle.facts.specs.Facts.{has}
use Rattle.rules.specs.Clashes.{interfere}
use Rattle.rules.specs.Plans.{Plan}
use Rattle.rules.proofs.Clashing.{flip}
use Rattle.states.specs.State.{Search, HasJob, St, Left, Sure, Low}
use Rattle.crowds.specs.Crowds.{Group, Away, GroupPlaced, CrowdOf, total, AllIn, Pile, Beside, AllBeside, Precede, All}
use Rattle.crowds.proofs.Spans.{Span, Clear, AllClear, Within, length, room}
use Rattle.crowds.proofs.Overload.{span, spans, spread, same, itself}

spaced_plain : (P : Search) (s : St) (a b n : ℕ) → n ≤ P.problem.duration a + P.problem.gap → Away P s a n b
spaced_plain P s a b n h Q l i k o = omega arith

module _ (P : Search) (s : St) (from till : ℕ) where
  module _ (Q : Plan) (left : Left P s Q) where
    -- where each group's job lies between u and v, so do their spans
    abbrev Lies : (u v : ℕ) → Group → Type 0
    Lies u v g = (a : ℕ) → T (has g.jobs a) → HasJob P Q a → (u ≤ Q a) × (Q a + g.long ≤ v)

    within_of : (u v : ℕ) (l : List Group) (c : CrowdOf P s from till l) → All (Lies u v) l → Within u v (spans P s from till Q left l c)
    within_of u v [] c f = tt
    within_of u v (g ∷ l) (p, a, c) (f, r) = let x = p.some Q left in (f x.0 x.1 x.2, within_of u v l c r)

    lies : (l : List Group) → CrowdOf P s from till l → (u v : ℕ) → u ≤ from → till ≤ v → All (Lies u v) l
    lies [] c u v o e = tt
    lies (g ∷ l) (p, a, c) u v o e =
        ((λ b h i. (omega (arith, p.lo b h, left.fits.stays.lo b i), omega (arith, p.hi b h, left.fits.stays.hi b i))), lies l c u v o e)

    crowd_between : (u v : ℕ) (l : List Group) → u ≤ v → CrowdOf P s from till l → All (Lies u v) l → u + total l ≤ v
    crowd_between u v l o c f = omega (arith, same P s from till Q left l c, room u v (spans P s from till Q left l c) o (spread P s from till Q left l c) (within_of u v l c f))

    module _ (k n : ℕ) (i : HasJob P Q k) where
      abbrev mine : Span
      mine = record { at = Q k; long = n }

      beside : (g : Group) (p : GroupPlaced P s from till g) → Beside P s k n g → Clear mine (span P s from till Q left g p)
      beside g p f =
          let x = p.some Q left in
          ⊎_elim (λ o. inl (f.there x.0 x.1 Q left i x.2 o)) (λ o. inr (f.back x.0 x.1 Q left x.2 i o))
          (left.first.ok.apart k x.0 i x.2 (f.hit x.0 x.1))

      all_beside : (l : List Group) (c : CrowdOf P s from till l) → AllBeside P s k n l → AllClear mine (spans P s from till Q left l c)
      all_beside [] c f = tt
      all_beside (g ∷ l) (p, a, c) (f, r) = (beside g p f, all_beside l c r)

      -- a crowd and one job beside it between u and v
      with_room : (u v : ℕ) (l : List Group) → u ≤ from → till ≤ v → CrowdOf P s from till l → AllBeside P s k n l → u ≤ Q k → Q k + n ≤ v → u + (n + total l) ≤ v
      unfolding length
      with_room u v l o e c b x y =
          omega (arith, same P s from till Q left l c, room u v (mine ∷ spans P s from till Q left l c) (omega arith) (all_beside l c b, spread P s from till Q left l c) ((x, y), within_of u v l c (lies l c u v o e)))

  module _ (l : List Group) (c : CrowdOf P s from till l) (k n : ℕ) where
    module _ (b : AllBeside P s k n l) where
      -- k has no room among them but as the last: what interferes with it and starts by till is over before it
      pub last : (low : ℕ) → low ≤ from → low ≤ s.lo k → till < low + (n + total l) → (a : ℕ) → T (interfere P.problem a k) → Away P s k n a → s.hi a ≤ till → Sure P s a k
      last low o e h a x f t Q left ia ik = ⊎_elim (λ y. y)
          (λ y. absurd (omega (
            arith,
            f Q left ik ia y,
            left.fits.stays.hi a ia,
            left.fits.stays.lo k ik,
            with_room Q left k n ik low till l o (omega arith) c b (omega (arith, left.fits.stays.lo k ik)) (omega (arith, f Q left ik ia y, left.fits.stays.hi a ia)),
          )))
          (left.first.ok.apart a k ia ik x)

      -- or as the first: it is over before what interferes with it and starts at from or later
      pub first : (high : ℕ) → till ≤ high → s.hi k + n ≤ high → high < from + (n + total l) → (a : ℕ) → T (interfere P.problem a k) → from ≤ s.lo a → Sure P s k a
      first high o e h a x t Q left ik ia = ⊎_elim
          (λ y. absurd (omega (arith, with_room Q left k n ik from high l (omega arith) o c b (omega (arith, y, left.fits.stays.lo a ia)) (omega (arith, left.fits.stays.hi k ik)))))
          (λ y. y)
          (left.first.ok.apart a k ia ik x)

  module _ (k n : ℕ) where
    lies_behind : (Q : Plan) (left : Left P s Q) → HasJob P Q k → (l : List Group) → CrowdOf P s from till l → AllBeside P s k n l → All (Precede P s k) l → All (Lies Q left from (Q k)) l
    lies_behind Q left i [] c b f = tt
    lies_behind Q left i (g ∷ l) (p, a, c) (b, r) (f, q) =
        ((λ x h j. (omega (arith, p.lo x h, left.fits.stays.lo x j), b.back x h Q left j i (f x h Q left j i))), lies_behind Q left i l c r q)

    module _ (g : Group) (l : List Group) (c : CrowdOf P s from till (g ∷ l)) (b : AllBeside P s k n (g ∷ l)) where
      -- all of them are over before k: it waits for them all
      pub behind : All (Precede P s k) (g ∷ l) → Low P s k (from + total (g ∷ l))
      behind f Q left i =
          let y = lies_behind Q left i (g ∷ l) c b f in
          let x = c.0.some Q left in
          let z = y.0 x.0 x.1 x.2 in
          crowd_between Q left from (Q k) (g ∷ l) (omega (arith, z.0, z.1)) c y

-- ── the same of a pile ──

module _ (P : Search) (s : St) (all from till sum members : ℕ) (p : Pile P s all from till sum members) (k n : ℕ) (looked : T (has all k)) (hits : (a : ℕ) → T (has members a) → T (interfere P.problem k a)) (plain : n ≤ P.problem.duration k + P.problem.gap) where
  besides : (l : List Group) → AllIn P s all members l → AllBeside P s k n l
  besides [] x = tt
  besides (g ∷ l) ((x, m), r) = (
    record {
      hit = λ a i. hits a (m a i);
      there = λ a i. spaced_plain P s k a n plain;
      back = λ a i. x.spaced a k i looked (λ j. itself P k (hits k (m k j)));
    },
    besides l r,
  )

  leads : ((a : ℕ) → T (has members a) → T (s.sure a k)) → (l : List Group) → AllIn P s all members l → All (Precede P s k) l
  leads f [] x = tt
  leads f (g ∷ l) ((x, m), r) = ((λ a i Q left ia ik. left.fits.sure a k (f a (m a i)) ia ik), leads f l r)

  pub pile_last : (low : ℕ) → low ≤ from → low ≤ s.lo k → till < low + (n + sum) → (a : ℕ) → T (has members a) → Sure P s a k
  pile_last low o e h a i = last P s from till p.groups p.crowd k n (besides p.groups p.known) low o e (omega (arith, p.sum_is)) a (flip P.problem k a (hits a i)) (spaced_plain P s k a n plain) (p.hi a i)

  pub pile_first : (high : ℕ) → till ≤ high → s.hi k + n ≤ high → high < from + (n + sum) → (a : ℕ) → T (has members a) → Sure P s k a
  pile_first high o e h a i = first P s from till p.groups p.crowd k n (besides p.groups p.known) high o e (omega (arith, p.sum_is)) a (flip P.problem k a (hits a i)) (p.lo a i)

  pub pile_behind : 0 < sum → ((a : ℕ) → T (has members a) → T (s.sure a k)) → Low P s k (from + sum)
  unfolding total
  pile_behind h f Q left i = go p.groups p.crowd p.known p.sum_is
    where
      go : (l : List Group) → CrowdOf P s from till l → AllIn P s all members l → total l ≡ sum → from + sum ≤ Q k
      go [] c x e = absurd (omega arith)
      go (g ∷ l) c x e = omega (arith, behind P s from till k n g l c (besides (g ∷ l) x) (leads f (g ∷ l) x) Q left i)
