-- Laws of the check of a turn.
-- Assumes nothing.
use mathlib.Core.Path.{◌≡◌, sym, ap, subst, ◌∙◌}
use mathlib.Core.Logic.{⊎_elim}
use mathlib.Core.List.{List}
use Prim.Native.Nat.{ℕ, ◌<◌, ◌^◌}
use native.Mathlib.Omega.{arith}
use lib.Dec.{T}
use Rattle.facts.specs.Facts.{has}
use Rattle.facts.specs.Least.{least}
use Rattle.facts.specs.Walks.{Walk}
use Rattle.facts.proofs.Bools.{same}
use Rattle.facts.proofs.Sets.{has_zero}
use Rattle.facts.proofs.Walks.{Done, done_none, done_next, done_map, done_all, Over, over_all, over_next, over_here, over_lt}
use Rattle.tables.specs.Tables.{problem}
use Rattle.tables.specs.declared.Loaded.{Loaded}
use Rattle.tables.specs.declared.Ask.{Ask}
use Rattle.entries.specs.Entries.{entry}
use Rattle.states.specs.State.{Leads}
use Rattle.turns.specs.declared.Guess.{Guess}
use Rattle.turns.specs.Turns.{Turn}
use Rattle.turns.specs.Checked.{AllInverse, Moved, Stems, Image, TurnsBelow, MovesTo, Leader}
use Rattle.turns.proofs.Leading.{turn_leads}

-- ── images of words ──

-- r has the fact that takes the place of p
abbrev Reached : (fact : List ℕ) (r p : ℕ) → Type 0
Reached fact r p = entry fact p < 64 → T (has r (entry fact p))

-- what is left of w is v, and r is the image of the rest
pub record Walked (fact : List ℕ) (w r v : ℕ) : Type 0 where
  pub over : Over 64 w v
  pub of : (i : ℕ) → T (has r i) → Stems fact w i
  pub done : Done (Reached fact r) w v

pub walked_none : {fact : List ℕ} {w : ℕ} → w < 2 ^ 64 → Walked fact w 0 w
walked_none l = record { over = over_all l; of = λ i h. absurd (has_zero i h); done = done_none }

-- the lowest fact of a word that is not empty is a fact
pub lowest_small : {v p : ℕ} → v < 2 ^ 64 → 0 < v → p ≡ least (has v) 64 → p < 64
lowest_small l n e = over_lt (over_all l) (λ z. omega arith) e

pub walked_next : {fact : List ℕ} {w r v p s u : ℕ} → Walked fact w r v → 0 < v → p ≡ least (has v) 64 → Moved fact p r s → Walk 64 v u → Walked fact w s u
walked_next {fact} {w} {r} {v} {p} {s} k n e m d = record {
  over = over_next k.over d;
  of = λ i h. ⊎_elim (λ x. k.of i x) (λ x. record { p = p; below = lowest_small k.over.short n e; in? = over_here k.over (λ z. omega arith) e; is = x }) (m.of i h);
  done = done_next (done_map (λ i x l. m.keeps _ (x l)) k.done) d (subst (Reached fact s) e m.at);
}

pub walked_all : {fact : List ℕ} {w r v : ℕ} → Walked fact w r v → v ≡ 0 → Image fact w r
walked_all k e = record { of = k.of; at = done_all k.done e }

-- where every fact is in its place again, a word has what its image has
pub mapped : {fact : List ℕ} {w v : ℕ} → AllInverse fact 64 → Image fact w v → (p : ℕ) → p < 64 → has v (entry fact p) ≡ has w p
mapped {fact} {w} {v} b m p l = same (has v (entry fact p)) (has w p) back (λ h. m.at p h (b p l).below)
  where
    back : T (has v (entry fact p)) → T (has w p)
    back h =
        let x = m.of (entry fact p) h in
        let e : x.p ≡ p = sym (b x.p x.below).again ∙ (ap (entry fact) (sym x.is) ∙ (b p l).again) in
        subst (λ (y : ℕ). T (has w y)) e x.in?

-- ── the turn ──

pub turn_of : (l : Loaded) (q : Ask) (g : Guess) → AllInverse g.fact 64 → Image g.fact q.opening q.opening → Image g.fact q.goals q.goals
    → TurnsBelow l q.jobs g q.jobs → Turn (problem l q) (entry g.to) (entry g.to) (entry g.fact)
turn_of l q g b o w t = record {
  below = λ j h. (t j h).below;
  from = λ j h. (t j h).below;
  forth = λ j h. (t j h).again;
  again = λ j h. (t j h).again;
  conditions = λ j p h m. mapped b (t j h).same.conditions p m;
  additions = λ j p h m. mapped b (t j h).same.additions p m;
  deletions = λ j p h m. mapped b (t j h).same.deletions p m;
  duration = λ j h. (t j h).same.times.duration;
  release = λ j h. (t j h).same.times.release;
  opening = λ p m. mapped b o p m;
  goals = λ p m. mapped b w p m;
}

pub leader_of : (l : Loaded) (q : Ask) (g : Guess) {m n : ℕ} → m < q.jobs → Turn (problem l q) (entry g.to) (entry g.to) (entry g.fact) → MovesTo g.to m n → Leader l q m n
leader_of l q g {m} h t w wf bound =
    subst (λ (x : ℕ). Leads (record { problem = problem l q; bound = bound }) m x) w.there
    (turn_leads (record { problem = problem l q; bound = bound }) wf t m (record { below = h; still = w.still }))
