-- Laws of settling and of the leaf.
-- Assumes nothing.
use mathlib.Core.Path.{◌≡◌, refl, sym, subst}
use mathlib.Core.Logic.{⊎_elim}
use mathlib.Core.Bool.{Bool, true, false, true≢false, false≢true}
use mathlib.Core.List.{List}
use Prim.Native.Nat.{ℕ, ◌+◌, ◌-◌, ◌≤◌, ◌<◌, ◌^◌}
use native.Mathlib.Omega.{arith}
use native.Mathlib.Decide.{dec_lt}
use lib.Bits.{bit_and}
use lib.ListN.{length, get_or}
use Rattle.std.specs.Bool.{MatchBool}
use Rattle.std.specs.List.{AllWithin, HoldsAt, range_with_len}
use Rattle.std.proofs.lemmas.List.FromFn.{length-range_with_len, get_or-range_with_len}
use lib.Dec.{T}
use Rattle.facts.specs.Facts.{has}
use Rattle.facts.proofs.Bools.{and_of, below_suc}
use Rattle.facts.proofs.Lists.{get_d_past}
use Rattle.facts.proofs.Sets.{has_and}
use Rattle.rules.specs.Plans.{Plan}
use Rattle.rules.specs.Supports.{Support, Who, task, goal}
use Rattle.rules.proofs.Sums.{sum_more}
use Rattle.states.specs.State.{Search, Left, Dead, More, Flawless, Timed, NeedsFact, there, Safe, Ahead}
use Rattle.cells.specs.View.{sures, ins, los, word_at, view, Prunes, Puts, From}
use Rattle.cells.proofs.Changes.{says, then, new_word}
use Rattle.lent.specs.Lent.{step_of, est_of, Lent}
use Rattle.lent.specs.Consumers.{NoFlaw}
use Rattle.lent.proofs.Consumers.{who_job}
use Rattle.std.specs.Prelude.{Option, Some, None, MatchOption}
use Rattle.leaves.specs.Leaf.{Violated, ViolatedRow, NoneEarly, BeginsAt, BegunBy, room, Raised, InPlace, AllInPlace, Verifies, StartsOf, plan_of, Resolves, LeafOk}
use Rattle.states.proofs.Rules as rules
use Rattle.states.proofs.Leaf as leaf

-- ── settling ──

-- whoever is violated with b is in b's row and inside
pub row_found : (s L : List ℕ) (b w : ℕ) (r : Option ℕ) → w ≡ bit_and (word_at s (sures b)) (word_at s ins)
    → MatchOption r ((a : ℕ) → T (has w a) → Violated s L a b → ⊥) (λ a. Violated s L a b) → ViolatedRow s L b r
row_found s L b w None e h = λ a v. h a (rw e (subst T (sym (has_and (word_at s (sures b)) (word_at s ins) a)) (and_of (has (word_at s (sures b)) a) _ v.order v.inside))) v
row_found s L b w (Some a) e h = h

-- ── from the estimates on ──

-- no valid plan starts the job before its estimate
pub begins_at : {s r L : List ℕ} {j x : ℕ} → x ≡ est_of L j → Puts (From j x) (los j) x s r → BeginsAt L s r j
begins_at {j = j} e d = record {
  prunes = says d (λ P wf t Q l i. omega (arith, t.listed.early P.bound Q l.first.ok j i));
  here = omega (arith, new_word d);
}

-- lower bounds never fall
begun_on : (s r L : List ℕ) (n : ℕ) → NoneEarly s L n → More (view s) (view r) → NoneEarly r L n
begun_on s r L n b m j l = omega (arith, b j l, m.lo j)

pub begun_more : {s t r L : List ℕ} {n : ℕ} → BegunBy L s t n → Prunes (Lent L) t r → BegunBy L s r n
begun_more {t = t} {r = r} {L = L} {n = n} b p = record { prunes = then b.prunes p; begun = begun_on t r L n b.begun p.more }

pub begun_next : {s t r L : List ℕ} {j : ℕ} → BegunBy L s t j → BeginsAt L t r j → BegunBy L s r (j + 1)
begun_next {t = t} {r = r} {L = L} {j = j} b h = record {
  prunes = then b.prunes h.prunes;
  begun = λ i l. ⊎_elim (λ m. begun_on t r L j b.begun h.prunes.more i m) (λ e. rw e h.here) (below_suc i j (omega arith));
}

-- a lower bound that rises makes the room smaller
room_falls : (s r : List ℕ) (b : ℕ) → More (view s) (view r) → b < 24 → (view s).lo b < (view r).lo b → (view r).lo b < 2 ^ 32 → room r < room s
unfolding room
room_falls s r b m l e k = omega (arith, sum_more (λ j. 2 ^ 32 - (view r).lo j) (λ j. 2 ^ 32 - (view s).lo j) 24 b 1 (λ j h. omega (arith, m.lo j)) l (omega arith))

module _ {s L : List ℕ} {a b : ℕ} (v : Violated s L a b) where
  after : (P : Search) → Lent L P → (Q : Plan) → Left P (view s) Q → (view s).lo a + step_of L a ≤ Q b
  after P e Q l = omega (arith, rules.push P e.listed.wf (view s) a b _ (rules.own_wait P e.listed.wf (view s) a b) v.inside v.order Q l (l.fits.stays.inside b v.there), e.listed.steps a v.first)

  pub raise_more : {r : List ℕ} {x : ℕ} → Puts (From b x) (los b) x s r → x ≡ (view s).lo a + step_of L a → x < 2 ^ 32 → Raised L s r true
  raise_more {r} {x} d z k = record {
    prunes = says d (λ P wf e Q l i. omega (arith, after P e Q l));
    less = λ e. room_falls s r b d.more v.second (omega (arith, new_word d, v.late)) (omega (arith, new_word d));
    dead = λ e. absurd (true≢false e);
  }

-- ── checks ──

module _ {Ok : Search → Type 0} {s : List ℕ} {X : Type 0} where
  pub checks_fine : X → Verifies Ok s true X
  checks_fine h = record { fine = λ e. h; dead = λ e. absurd (true≢false e) }

  pub checks_dead : ((P : Search) → Ok P → Dead P (view s)) → Verifies Ok s false X
  checks_dead h = record { fine = λ e. absurd (false≢true e); dead = λ e. h }

-- a check of each of the first n jobs
pub verified : {Ok : Search → Type 0} {s : List ℕ} {r : Bool} {Yes : ℕ → Type 0} (n : ℕ)
    → MatchBool r (AllWithin Yes (range_with_len 0 n) 0 (length (range_with_len 0 n))) ((k : ℕ) × (k < length (range_with_len 0 n)) × HoldsAt (λ _. (P : Search) → Ok P → Dead P (view s)) (range_with_len 0 n) k)
    → Verifies Ok s r ((j : ℕ) → j < n → Yes j)
verified {r = true} {Yes} n x = checks_fine (λ j l. let e : get_or (range_with_len 0 n) j 0 ≡ j = omega (arith, get_or-range_with_len 0 n j 0 l) in subst Yes e (x j 0 (omega arith) (omega (arith, length-range_with_len 0 n))))
verified {r = false} n x = checks_dead (x.2 0)

-- ── the leaf ──

pub refused : {Ok : Search → Type 0} {s q : List ℕ} → ((P : Search) → Ok P → Dead P (view s)) → Resolves Ok s q q false
refused h = record { plan = λ e. absurd (false≢true e); size = λ e. absurd (false≢true e); none = λ e. h; same = λ e. refl }

pub strays : {L : List ℕ} (s : List ℕ) → (((j : ℕ) → T (has (word_at s ins) j) → j < 24) → ⊥) → (P : Search) → Lent L P → Dead P (view s)
strays s n P e Q l = n (λ j i. omega (arith, (l.fits.stays.inside j i).below, e.listed.few))

module _ {s L q : List ℕ} (ok : LeafOk s L) (ns : (j : ℕ) → T (has (word_at s ins) j) → j < 24) (al : AllInPlace s L 24) (st : StartsOf s 24 q) where
  stands : (j : ℕ) → T ((view s).inside j) → InPlace s L j
  stands j i = al j (ns j i) i

  off : (j : ℕ) → (T ((view s).inside j) → ⊥) → plan_of q j ≡ 65535
  off j n = go (dec_lt j 24)
    where
      go : Dec (j < 24) → plan_of q j ≡ 65535
      go (yes h) = (st.each j h).out n
      go (no h) = get_d_past q j 65535 (omega (arith, st.size))

  module _ (P : Search) (l : Lent L P) where
    at : (j : ℕ) → T ((view s).inside j) → plan_of q j ≡ (view s).lo j
    at j i = (st.each j (ns j i)).in? i (omega (arith, (stands j i).ends, l.listed.steps j (ns j i), l.listed.gap, l.bound, l.short))

    below : (j : ℕ) → T ((view s).inside j) → j < P.problem.count
    below j i = omega (arith, (stands j i).below, l.listed.count)

    whole : Flawless P (view s)
    whole = record {
      below = below;
      clean = λ j i. (stands j i).free;
      ready = ready;
      apart = λ i j a b x. nf.apart i j (ns i a) (ns j b) (l.listed.meets i j (below i a) (below j b) x) a b;
    }
      where
        nf : NoFlaw P s L
        nf = ok.whole P l

        ready : (w : Who) (p : ℕ) → T (there (view s) w) → NeedsFact P w p → (x : Support) × Safe P (view s) p w x
        ready (task b) p i n =
            subst (λ (v : Who). T (there (view s) v) → NeedsFact P v p → (x : Support) × Safe P (view s) p v x) (who_job b (ns b i)) (λ t w. nf.ready b (omega (arith, ns b i)) t p w) i n
        ready goal p i n = nf.ready 24 (omega arith) i p n

    order : (a b : ℕ) → T ((view s).inside a) → T ((view s).inside b) → T ((view s).sure a b) → Ahead P (plan_of q) a b
    order a b i k o = go (dec_lt ((view s).lo b) ((view s).lo a + step_of L a))
      where
        go : Dec ((view s).lo b < (view s).lo a + step_of L a) → Ahead P (plan_of q) a b
        go (yes h) = absurd (ok.steady b a (record { first = ns a i; second = ns b k; inside = i; there = k; order = o; late = h }))
        go (no h) = omega (arith, at a i, at b k, l.listed.steps a (ns a i))

    timed : Timed P (view s) (plan_of q)
    timed = record {
      runs = record { from = λ j i. omega (arith, at j i); order = order };
      upto = λ j i. omega (arith, at j i, (stands j i).window);
      ends = λ j i. omega (arith, at j i, (stands j i).ends, l.listed.steps j (ns j i), l.listed.gap, l.bound);
      released = λ j i. omega (arith, at j i, ok.begun j (ns j i), l.listed.release j (below j i));
      out = off;
    }

  pub found : {old : List ℕ} → Resolves (Lent L) s old q true
  found = record {
    plan = λ e P l. leaf.leaf P l.listed.wf l.short (view s) (whole P l) (plan_of q) (timed P l);
    size = λ e. st.size;
    none = λ e. absurd (true≢false e);
    same = λ e. absurd (true≢false e);
  }
