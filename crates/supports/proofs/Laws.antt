-- Words of jobs that a walk sifts, and what they say of the supports of a fact.
-- Assumes nothing.
use mathlib.Core.Path.{◌≡◌, refl, sym, subst}
use mathlib.Core.Logic.{◌⊎◌, inl, inr, ◌≢◌, ⊎_elim}
use mathlib.Core.Bool.{Bool, true, false, ◌&&◌}
use mathlib.Core.List.{List}
use Prim.Native.Nat.{ℕ, ◌≤◌, ◌<◌, ◌^◌}
use native.Mathlib.Omega.{arith}
use native.Mathlib.Decide.{ℕ_discrete}
use lib.Bits.{bit_and}
use lib.Dec.{T}
use Rattle.facts.specs.Facts.{has}
use Rattle.facts.specs.Words.{Decides}
use Rattle.facts.specs.Least.{least}
use Rattle.facts.specs.Walks.{Walk}
use Rattle.facts.proofs.Bools.{passes, and_of, and_l, and_r}
use Rattle.facts.proofs.Sets.{has_zero, has_and, some_fact}
use Rattle.facts.proofs.Walks.{Done, done_none, done_next, done_map, done_all, Over, over_all, over_next, over_here}
use Rattle.states.specs.State.{Search, Killer, StartMay, surely_late}
use Rattle.cells.specs.View.{view, word_at, ins, nevers}
use Rattle.jobs.specs.Jobs.{Noted}
use Rattle.lent.specs.Lent.{Cols, Kills}
use Rattle.lent.specs.Consumers.{who_at}
use Rattle.lent.proofs.Consumers.{other_who, other_not}
use Rattle.supports.specs.Supports.{Sifts, OtherThreat, Threat, Danger, Candidate, FairSupport, Sight}

-- ── a walk that sifts a word ──

-- w is what passed of the word `all`, of which v is still to come
pub record Sifted (answer : ℕ → Bool → Type 0) (all v w : ℕ) : Type 0 where
  pub over : Over 64 all v
  pub of : (i : ℕ) → T (has w i) → T (has all i) × (i < 24) × answer i true
  pub at : Done (λ i. i < 24 → T (has w i) ⊎ answer i false) all v

pub sifted_none : {answer : ℕ → Bool → Type 0} {v : ℕ} → v < 2 ^ 64 → Sifted answer v v 0
sifted_none l = record { over = over_all l; of = λ i h. absurd (has_zero i h); at = done_none }

answered : {X : Type 0} (answer : Bool → Type 0) (flag : Bool) → answer flag → (T flag → X) → X ⊎ answer false
answered answer true y f = inl (f tt)
answered answer false y f = inr y

pub sifted_next : {answer : ℕ → Bool → Type 0} {all v w d v' w' : ℕ} {flag : Bool} → Sifted answer all v w → 0 < v
    → d ≡ least (has v) 64 → Walk 64 v v' → answer d flag → Noted (T flag) d w w' → Sifted answer all v' w'
sifted_next {answer} {all} {d = d} {w' = w'} {flag} s n e r q t = record {
  over = over_next s.over r;
  of = λ i h. ⊎_elim (s.of i) (λ x. subst (λ (j : ℕ). T (has all j) × (j < 24) × answer j true) (sym x.0) (over_here s.over (λ z. omega arith) e, x.1, subst (answer d) (sym (passes flag x.2)) q)) (t.of i h);
  at = done_next (done_map (λ i g l. ⊎_elim (λ x. inl (t.keeps i x)) inr (g l)) s.at) r (subst (λ (j : ℕ). j < 24 → T (has w' j) ⊎ answer j false) e (λ l. answered (answer d) flag q (t.at l)));
}

pub sifted_all : {answer : ℕ → Bool → Type 0} {all v w : ℕ} → Sifted answer all v w → v ≡ 0 → Sifts answer all w
sifted_all s e = record { of = s.of; at = λ i l h. done_all s.at e i h l }

-- what the answers say of the jobs of the word
sifts_as : {answer : ℕ → Bool → Type 0} {f g : ℕ → Type 0} {all w : ℕ} → Sifts answer all w → ((i : ℕ) → i < 24 → (b : Bool) → answer i b → Decides b (f i))
    → ((i : ℕ) → i < 24 → T (has all i) → f i → g i) → ((i : ℕ) → i < 24 → g i → T (has all i) × f i) → Cols g w 24
sifts_as s says to back = record {
  of = λ i h. (let x = s.of i h in (x.1, to i x.1 x.0 ((says i x.1 true x.2).yea refl)));
  at = λ i l y. (let x = back i l y in ⊎_elim (λ h. h) (λ a. absurd ((says i l false a).nay refl x.1)) (s.at i l x.0));
}

-- ── those that delete a fact ──

both_of : (a b i : ℕ) → T (has a i) → T (has b i) → T (has (bit_and a b) i)
both_of a b i h k = subst T (sym (has_and a b i)) (and_of (has a i) (has b i) h k)

both_at : (a b i : ℕ) → T (has (bit_and a b) i) → T (has a i) × T (has b i)
both_at a b i h = let x : T (has a i && has b i) = subst T (has_and a b i) h in (and_l (has a i) (has b i) x, and_r (has a i) (has b i) x)

module _ {P : Search} (s : List ℕ) {p : ℕ} (b : ℕ) {kills : ℕ} (k : Cols (Kills P.problem p) kills 24) where
  killer_is : (d : ℕ) → T (has (bit_and kills (word_at s ins)) d) → d ≢ b → Killer P (view s) p (who_at b) d
  killer_is d h n =
      let x = both_at kills (word_at s ins) d h in
      let z = (k.of d x.0).1 in
      record { below = z.0; in? = x.1; kills = z.1; other = other_who b d n }

  killer_in : (d : ℕ) → d < 24 → Killer P (view s) p (who_at b) d → T (has (bit_and kills (word_at s ins)) d)
  killer_in d l x = both_of kills (word_at s ins) d (k.at d l (x.below, x.kills)) x.in?

  pub threats_all : {sure : Bool} {answer : ℕ → Bool → Type 0} {w : ℕ} → Sifts answer (bit_and kills (word_at s ins)) w → ((d : ℕ) → d < 24 → (y : Bool) → answer d y → Decides y (OtherThreat sure s b d)) → Cols (Threat sure P s p b) w 24
  threats_all f says = sifts_as f says (λ d l h x. record { killer = killer_is d h x.other; threat = x.threat })
      (λ d l x. (killer_in d l x.killer, record { below = l; other = other_not b d l x.killer.other; threat = x.threat }))

-- ── candidates ──

-- no danger surely follows the job, in a word and in so many words
clear_of : {P : Search} {s : List ℕ} {p b A G : ℕ} → Sight P s p b A G → (a : ℕ) → bit_and (word_at s (nevers a)) G ≡ 0
    → (d : ℕ) → Killer P (view s) p (who_at b) d → T ((view s).never d a) → T (surely_late (view s) (who_at b) d) → ⊥
clear_of {s = s} {G = G} c a e d k n l =
    let g : T (has G d) = c.dangers.at d (omega (arith, c.few, k.below)) (record { killer = k; threat = l }) in
    has_zero d (subst (λ (x : ℕ). T (has x d)) e (both_of (word_at s (nevers a)) G d n g))

clear_in : {P : Search} {s : List ℕ} {p b A G : ℕ} → Sight P s p b A G → (a : ℕ) → Candidate P s p b a → bit_and (word_at s (nevers a)) G ≡ 0
clear_in {s = s} {G = G} c a m = go (ℕ_discrete (bit_and (word_at s (nevers a)) G) 0)
  where
    go : Dec (bit_and (word_at s (nevers a)) G ≡ 0) → bit_and (word_at s (nevers a)) G ≡ 0
    go (yes e) = e
    go (no n) =
        let i = some_fact (bit_and (word_at s (nevers a)) G) n in
        let k = both_at (word_at s (nevers a)) G i.0 i.1 in
        let g = (c.dangers.of i.0 k.1).1 in
        absurd (m.clear i.0 g.killer k.0 g.threat)

pub cands_all : {P : Search} (s : List ℕ) {p b A G w : ℕ} {answer : ℕ → Bool → Type 0} → Sight P s p b A G → Sifts answer A w → ((a : ℕ) → a < 24 → (y : Bool) → answer a y → Decides y (FairSupport s b G a)) → Cols (Candidate P s p b) w 24
cands_all s {b = b} c f says = sifts_as f says
    (λ a l h x. (let z = (c.gives.of a h).1 in record { below = z.0; gives = z.1; free = x.free; other = other_who b a x.other; before = x.before; clear = clear_of c a x.clear }))
    (λ a l m. (c.gives.at a l (m.below, m.gives), record { below = l; other = other_not b a l m.other; free = m.free; before = m.before; clear = clear_in c a m }))

module _ {P : Search} (s : List ℕ) {p : ℕ} (b : ℕ) {G : ℕ} (k : Cols (Danger P s p b) G 24) where
  -- where there is a danger, Start is no candidate
  pub danger_bars : (G ≡ 0 → ⊥) → StartMay P (view s) p (who_at b) → ⊥
  danger_bars n m = let i = some_fact G n in let g = (k.of i.0 i.1).1 in m.clear i.0 g.killer g.threat

  -- where there is none, it is one if the fact is open
  pub start_fair : P.problem.count ≤ 24 → G ≡ 0 → T (has P.problem.opening p) → StartMay P (view s) p (who_at b)
  start_fair few e o = record { given = o; clear = λ d x l. has_zero d (subst (λ (i : ℕ). T (has i d)) e (k.at d (omega (arith, x.below)) (record { killer = x; threat = l }))) }
