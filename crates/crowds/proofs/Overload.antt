-- Overload: groups that exclude each other need room one beside the other.
-- Assumes nothing.
use mathlib.Core.Path.{◌≡◌, refl, sym, subst}
use mathlib.Core.Logic.{◌⊎◌, inl, inr, ⊎_elim}
use mathlib.Core.List.{List, [], ◌∷◌}
use Prim.Native.Nat.{ℕ, ◌+◌, ◌≤◌, ◌<◌}
use native.Mathlib.Omega.{arith}
use lib.Bits.{bit_or}
use lib.Dec.{T}
use Rattle.facts.specs.Facts.{has}
use Rattle.facts.proofs.Bools.{or_l, or_r, or_cases}
use Rattle.facts.proofs.Sets.{has_zero, has_or}
use Rattle.rules.specs.Clashes.{interfere}
use Rattle.rules.specs.Plans.{Plan}
use Rattle.rules.proofs.Clashing.{interfere_at}
use Rattle.states.specs.State.{Search, St, Left, Dead, More}
use Rattle.states.proofs.Keep.{left_back}
use Rattle.groups.specs.OneOf.{SomeOf}
use Rattle.crowds.specs.Crowds.{Group, GroupPlaced, Against, AllAgainst, CrowdOf, total, SoundGroup, GroupSeen, AllIn, Pile}
use Rattle.crowds.proofs.Spans.{Span, Clear, AllClear, Spread, Within, length, room}

module _ (P : Search) (s : St) (from till : ℕ) where
  module _ (Q : Plan) (left : Left P s Q) where
    -- the span of a group: of the job of it that the plan has
    abbrev pub span : (g : Group) → GroupPlaced P s from till g → Span
    span g p = record { at = Q (p.some Q left).0; long = g.long }

    abbrev pub spans : (l : List Group) → CrowdOf P s from till l → List Span
    spans [] c = []
    spans (g ∷ l) (p, a, c) = span g p ∷ spans l c

    clear : (g h : Group) (p : GroupPlaced P s from till g) (q : GroupPlaced P s from till h) → Against P s g h → Clear (span g p) (span h q)
    clear g h p q f =
        let x = p.some Q left in
        let y = q.some Q left in
        ⊎_elim (λ o. inl (f.there x.0 y.0 x.1 y.1 Q left x.2 y.2 o)) (λ o. inr (f.back x.0 y.0 x.1 y.1 Q left y.2 x.2 o))
        (left.first.ok.apart x.0 y.0 x.2 y.2 (f.hit x.0 y.0 x.1 y.1))

    all_clear : (g : Group) (p : GroupPlaced P s from till g) (l : List Group) (c : CrowdOf P s from till l) → AllAgainst P s g l → AllClear (span g p) (spans l c)
    all_clear g p [] c f = tt
    all_clear g p (h ∷ l) (q, a, c) (f, r) = (clear g h p q f, all_clear g p l c r)

    pub spread : (l : List Group) (c : CrowdOf P s from till l) → Spread (spans l c)
    spread [] c = tt
    spread (g ∷ l) (p, a, c) = (all_clear g p l c a, spread l c)

    within : (l : List Group) (c : CrowdOf P s from till l) → Within from till (spans l c)
    within [] c = tt
    within (g ∷ l) (p, a, c) =
        let x = p.some Q left in
        ((omega (arith, p.lo x.0 x.1, left.fits.stays.lo x.0 x.2), omega (arith, p.hi x.0 x.1, left.fits.stays.hi x.0 x.2)), within l c)

    pub same : (l : List Group) (c : CrowdOf P s from till l) → length (spans l c) ≡ total l
    unfolding length total
    same [] c = refl
    same (g ∷ l) (p, a, c) = omega (arith, same l c)

    pub crowd_room : (l : List Group) → from ≤ till → CrowdOf P s from till l → from + total l ≤ till
    crowd_room l o c = omega (arith, same l c, room from till (spans l c) o (spread l c) (within l c))

  -- overload
  pub overload : (l : List Group) → from ≤ till → CrowdOf P s from till l → till < from + total l → Dead P s
  overload l o c h Q left = omega (arith, crowd_room Q left l o c)

-- ── a crowd that grows by a test on words ──

pub itself : (P : Search) (a : ℕ) → T (interfere P.problem a a) → ⊥
itself P a h = (interfere_at P.problem a a h).0 refl

module _ (P : Search) (s : St) where
  placed_later : (from till more : ℕ) (g : Group) → till ≤ more → GroupPlaced P s from till g → GroupPlaced P s from more g
  placed_later from till more g l p = record { some = p.some; lo = p.lo; hi = λ a h. omega (arith, p.hi a h) }

  crowd_later : (from till more : ℕ) (l : List Group) → till ≤ more → CrowdOf P s from till l → CrowdOf P s from more l
  crowd_later from till more [] o c = tt
  crowd_later from till more (g ∷ l) o (p, a, c) = (placed_later from till more g o p, a, crowd_later from till more l o c)

  module _ (all : ℕ) where
    in_more : (v w : ℕ) → ((a : ℕ) → T (has v a) → T (has w a)) → (l : List Group) → AllIn P s all v l → AllIn P s all w l
    in_more v w f [] k = tt
    in_more v w f (g ∷ l) ((x, k), r) = ((x, λ a h. f a (k a h)), in_more v w f l r)

    -- a group that interferes with all jobs of the word is against all groups in it
    against_all : (g : Group) (w : ℕ) → SoundGroup P s all g → ((a b : ℕ) → T (has g.jobs a) → T (has w b) → T (interfere P.problem a b))
        → (l : List Group) → AllIn P s all w l → AllAgainst P s g l
    against_all g w x f [] k = tt
    against_all g w x f (h ∷ l) ((y, k), r) = (
      record {
        hit = λ a b i j. f a b i (k b j);
        there = λ a b i j. x.spaced a b i (y.inner b j) (λ m. itself P b (f b b m (k b j)));
        back = λ a b i j. y.spaced b a j (x.inner a i) (λ m. itself P a (f a a i (k a m)));
      },
      against_all g w x f l r,
    )

    pub pile_none : (from : ℕ) → Pile P s all from from 0 0
    unfolding total
    pile_none from = record { groups = []; crowd = tt; known = tt; sum_is = refl; after = omega arith; lo = λ a h. absurd (has_zero a h); hi = λ a h. absurd (has_zero a h) }

    -- one group more, where the word of all jobs so far is among those that interfere with it
    pub pile_add : (from till sum members : ℕ) (g : Group) (others low gone later : ℕ) → SoundGroup P s all g → GroupSeen P s g others low gone → from ≤ low
        → ((b : ℕ) → T (has members b) → T (has others b)) → till ≤ later → gone ≤ later
        → Pile P s all from till sum members → Pile P s all from later (sum + g.long) (bit_or members g.jobs)
    unfolding total
    pile_add from till sum members g others low gone later x y o f t e p = record {
      groups = g ∷ p.groups;
      crowd = (
        record { some = x.some; lo = λ a h. omega (arith, y.lo a h); hi = λ a h. omega (arith, y.hi a h) },
        against_all g members x (λ a b i j. y.hits a b i (f b j)) p.groups p.known,
        crowd_later from till later p.groups t p.crowd,
      );
      known = ((x, λ b h. subst T (sym (has_or members g.jobs b)) (or_r (has members b) _ h)), in_more members (bit_or members g.jobs) (λ b h. subst T (sym (has_or members g.jobs b)) (or_l (has members b) _ h)) p.groups p.known);
      sum_is = omega (arith, p.sum_is);
      after = omega (arith, p.after);
      lo = λ a h. ⊎_elim (λ i. p.lo a i) (λ i. omega (arith, y.lo a i)) (parts a h);
      hi = λ a h. ⊎_elim (λ i. omega (arith, p.hi a i)) (λ i. omega (arith, y.hi a i)) (parts a h);
    }
      where
        parts : (a : ℕ) → T (has (bit_or members g.jobs) a) → T (has members a) ⊎ T (has g.jobs a)
        parts a h = or_cases (has members a) _ (subst T (has_or members g.jobs a) h)

    pub pile_dead : (from till sum members : ℕ) → Pile P s all from till sum members → till < from + sum → Dead P s
    pile_dead from till sum members p h = overload P s from till p.groups p.after p.crowd (omega (arith, p.sum_is))

-- what a state says more keeps a group and a pile
module _ (P : Search) (s t : St) (m : More s t) where
  pub some_more : (w : ℕ) → SomeOf P s w → SomeOf P t w
  some_more w x Q l = x Q (left_back m l)

  pub sound_more : (all : ℕ) (g : Group) → SoundGroup P s all g → SoundGroup P t all g
  sound_more all g x = record { some = some_more g.jobs x.some; inner = x.inner; spaced = λ a b i j n Q l. x.spaced a b i j n Q (left_back m l) }

  against_more : (g h : Group) → Against P s g h → Against P t g h
  against_more g h x = record { hit = x.hit; there = λ a b i j Q l. x.there a b i j Q (left_back m l); back = λ a b i j Q l. x.back a b i j Q (left_back m l) }

  all_against_more : (g : Group) (l : List Group) → AllAgainst P s g l → AllAgainst P t g l
  all_against_more g [] x = tt
  all_against_more g (h ∷ l) (x, r) = (against_more g h x, all_against_more g l r)

  crowd_more : (from till : ℕ) (l : List Group) → CrowdOf P s from till l → CrowdOf P t from till l
  crowd_more from till [] c = tt
  crowd_more from till (g ∷ l) (p, a, c) =
      (record { some = some_more g.jobs p.some; lo = λ b i. omega (arith, p.lo b i, m.lo b); hi = λ b i. omega (arith, p.hi b i, m.hi b) }, all_against_more g l a, crowd_more from till l c)

  all_in_more : (all w : ℕ) (l : List Group) → AllIn P s all w l → AllIn P t all w l
  all_in_more all w [] k = tt
  all_in_more all w (g ∷ l) ((x, k), r) = ((sound_more all g x, k), all_in_more all w l r)

  pub pile_more : (all from till sum members : ℕ) → Pile P s all from till sum members → Pile P t all from till sum members
  pile_more all from till sum members p = record {
    groups = p.groups;
    crowd = crowd_more from till p.groups p.crowd;
    known = all_in_more all members p.groups p.known;
    sum_is = p.sum_is;
    after = p.after;
    lo = λ a i. omega (arith, p.lo a i, m.lo a);
    hi = λ a i. omega (arith, p.hi a i, m.hi a);
  }
