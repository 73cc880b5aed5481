-- Laws of the walk over a crowd.
-- Assumes nothing.
use mathlib.Core.Path.{◌≡◌, refl, sym, subst}
use mathlib.Core.Logic.{inl, inr, ⊎_elim}
use mathlib.Core.List.{List}
use Prim.Native.Nat.{ℕ, ◌+◌, ◌≤◌, ◌<◌}
use native.Mathlib.Omega.{arith}
use lib.Bits.{bit_or}
use lib.Dec.{T}
use lib.ListN.{get_or}
use Rattle.facts.specs.Facts.{has}
use Rattle.rules.specs.Clashes.{interfere}
use Rattle.rules.specs.Plans.{Plan}
use Rattle.states.specs.State.{Search, Left, More, Low, Dead}
use Rattle.cells.specs.View.{view, AllAhead, Prunes}
use Rattle.lent.specs.Lent.{step_of, Lent}
use Rattle.lent.proofs.Laws.{wait_of_lem}
use Rattle.keeps.specs.Keeps.{KeepsAway}
use Rattle.groups.specs.OneOf.{OneIn, AllOneIn}
use Rattle.groups.specs.declared.Groups.{Groups}
use Rattle.crowds.specs.Crowds.{Away}
use Rattle.crowds.specs.declared.Crowd.{Crowd}
use Rattle.crowds.specs.declared.Heap.{Heap}
use Rattle.crowds.specs.Heaps.{Joins, FairCrowd, Heaps, GroupsOf, Trusted, Heaped, StandsBeside, AllAfter}
use Rattle.crowds.proofs.Overload.{pile_add, pile_dead, some_more, pile_more}
use Rattle.crowds.proofs.Edges.{pile_last, pile_first, pile_behind}

-- ── one group more ──

pub heaps : (s L : List ℕ) (c : Crowd) (h : Heap) (j x : ℕ) {group till : ℕ} → j < 24 → group ≡ get_or c.words j 0 → x ≡ get_or c.long j 0 → Joins s L c.jobs group h → x ≤ 65535 → h.sum ≤ 4000000 → h.till ≤ till
    → ((a : ℕ) → T (has group a) → a < 24 → (view s).hi a + x ≤ till)
    → Heaps s L c h (record { from = h.from; members = bit_or h.members group; sum = h.sum + x; till = till })
heaps s L c h j x {group} {till} below eg ex k short small after gone = record {
  small = λ l. omega arith;
  same = refl;
  piled = λ P t f p.
      pile_add P (view s) c.jobs h.from h.till h.sum h.members (record { jobs = group; long = x }) h.members h.from till till
      (record { some = subst (OneIn P s) (sym eg) (f.some j below) k.some; inner = k.among; spaced = away P t f })
      (record { hits = λ a b i m. t.listed.clash a b (k.late a i).0 (k.rivals a i b m); lo = λ a i. (k.late a i).1; hi = λ a i. gone a i (k.late a i).0 })
      (omega arith) (λ b m. m) after (omega arith) p;
}
  where
    held : {P : Search} → FairCrowd P s L c → KeepsAway s L c.jobs group x
    held f = rw (eg, ex) (f.hold j below)

    away : (P : Search) → Lent L P → FairCrowd P s L c → (a b : ℕ) → T (has group a) → T (has c.jobs b) → (T (has group b) → ⊥) → Away P (view s) a x b
    away P t f a b i m n Q l ia ib o =
        ⊎_elim (λ y. absurd (l.fits.never a b y ia ib o)) (λ y. omega (arith, wait_of_lem t a b Q l.first.ok ia ib o))
        (held f a b i (k.late a i).0 m n (omega (arith, ib.below, t.listed.few)))

-- ── what a state says more keeps all this ──

all_chosen_more : (s t : List ℕ) (m : More (view s) (view t)) (P : Search) (words : List ℕ) → AllOneIn P s words 24 → AllOneIn P t words 24
all_chosen_more s t m P words f j l n = some_more P (view s) (view t) m (get_or words j 0) (f j l n)

pub offered_more : {L s t : List ℕ} {g : Groups} (P : Search) → GroupsOf L s g P → More (view s) (view t) → GroupsOf L t g P
offered_more {L} {s} {t} {g} P x m = record { lent = x.lent; some = all_chosen_more s t m P g.words x.some }

pub trusted_more : {L s t : List ℕ} {c : Crowd} (P : Search) → Trusted L s c P → More (view s) (view t) → Trusted L t c P
trusted_more {L} {s} {t} {c} P x m = record {
  lent = x.lent;
  fair = record {
    hold = λ j l a b i n k o q. ⊎_elim (λ y. inl (m.never a b y)) (λ y. inr y) (x.fair.hold j l a b i n k o q);
    some = all_chosen_more s t m P c.words x.fair.some;
  };
}

pub heaped_more : {L s t : List ℕ} {w : ℕ} {h : Heap} (P : Search) → Heaped L s w h P → More (view s) (view t) → Heaped L t w h P
heaped_more {L} {s} {t} {w} {h} P x m = record { lent = x.lent; piled = pile_more P (view s) (view t) m w h.from h.till h.sum h.members x.piled }

pub stands_more : {L s t : List ℕ} {w : ℕ} {h : Heap} {k : ℕ} (P : Search) → StandsBeside L s w h k P → More (view s) (view t) → StandsBeside L t w h k P
stands_more P x m = record { heaped = heaped_more P x.heaped m; among = x.among; rivals = x.rivals }

-- a heap without room leaves no plan
pub heaped_dead : {L s : List ℕ} {w : ℕ} {h : Heap} {P : Search} → Heaped L s w h P → h.till < h.from + h.sum → Dead P (view s)
heaped_dead {L} {s} {w} {h} {P} x l = pile_dead P (view s) w h.from h.till h.sum h.members x.piled l

pub heaped_join : {L s₀ s : List ℕ} {c : Crowd} {h r : Heap} → Prunes (Trusted L s₀ c) s₀ s → Heaps s L c h r → ((P : Search) → Trusted L s₀ c P → Heaped L s c.jobs h P) → (P : Search) → Trusted L s₀ c P → Heaped L s c.jobs r P
heaped_join {L} {s₀} {s} {c} p j f P x = record { lent = x.lent; piled = j.piled P x.lent (trusted_more {L = L} {s = s₀} {t = s} {c = c} P x p.more).fair (f P x).piled }

-- ── last and first ──

module _ {L s : List ℕ} {w : ℕ} {h : Heap} {k n : ℕ} (l : k < 24) (step : n ≡ step_of L k) {P : Search} (x : StandsBeside L s w h k P) where
  abbrev hits : (a : ℕ) → T (has h.members a) → T (interfere P.problem k a)
  hits a i = x.heaped.lent.listed.clash k a l (x.rivals a i)

  plain : n ≤ P.problem.duration k + P.problem.gap
  plain = omega (arith, step, x.heaped.lent.listed.steps k l)

  pub stands_last : {low : ℕ} → low ≤ h.from → low ≤ (view s).lo k → h.till < low + (n + h.sum) → (Q : Plan) → Left P (view s) Q → AllAhead h.members k P Q
  stands_last {low} o e f Q q a i = pile_last P (view s) w h.from h.till h.sum h.members x.heaped.piled k n x.among hits plain low o e f a i Q q

  pub stands_first : {high : ℕ} → h.till ≤ high → (view s).hi k + n ≤ high → high < h.from + (n + h.sum) → (Q : Plan) → Left P (view s) Q → AllAfter h.members k P Q
  stands_first {high} o e f Q q a i = pile_first P (view s) w h.from h.till h.sum h.members x.heaped.piled k n x.among hits plain high o e f a i Q q

  pub stands_after : 0 < h.sum → ((a : ℕ) → T (has h.members a) → T ((view s).sure a k)) → Low P (view s) k (h.from + h.sum)
  stands_after o f = pile_behind P (view s) w h.from h.till h.sum h.members x.heaped.piled k n x.among hits plain o f
