-- Pair estimates: which two facts can stand side by side, and which facts a job puts out of reach.
-- Assumes nothing.
use Rattle.std.specs.Prelude.{◌⊎◌, ◌↔◌, Bool, ℕ, ◌<◌, T}
use Rattle.facts.specs.Facts.{has}
use Rattle.rules.specs.Table.{Problem, needs}
use Rattle.rules.specs.Premises.{adds, deletes}

-- a set of pairs of facts
abbrev pub PairSet : Type 0
PairSet = ℕ → ℕ → Bool

-- the conditions of job i are pairwise in the set
abbrev pub Fit : Problem → PairSet → ℕ → Type 0
Fit P S i = (r u : ℕ) → needs P i r → needs P i u → T (S r u)

-- the rules of reachable pairs; a fact alone counts as a pair with itself
pub record Closed (P : Problem) (S : PairSet) : Type 0 where
  pub swaps : (p q : ℕ) → T (S p q) → T (S q p)
  pub opens : (p q : ℕ) → T (has P.opening p) → T (has P.opening q) → T (S p q)
  pub both : (i p q : ℕ) → i < P.count → Fit P S i → adds P i p → adds P i q → T (S p q)
  pub beside : (i p q : ℕ) → i < P.count → Fit P S i → adds P i p → (deletes P i q → ⊥) → T (S q q) → ((r : ℕ) → needs P i r → T (S r q)) → T (S p q)

-- the reachable pairs are the smallest set with these rules
abbrev pub Reachable : Problem → ℕ → ℕ → Type 0
Reachable P p q = (S : PairSet) → Closed P S → T (S p q)

-- the set is that of the reachable pairs
pub record Exact (P : Problem) (S : PairSet) : Type 0 where
  pub closed : Closed P S
  pub least : (p q : ℕ) → T (S p q) → Reachable P p q

-- two facts exclude each other (003: are mutex) where their pair is not in the set
abbrev pub Exclude : PairSet → ℕ → ℕ → Type 0
Exclude S p q = T (S p q) → ⊥

-- job i e-deletes p: it deletes p, or adds a fact that excludes p, or has a condition that excludes p and does not add p
pub data EDeletes (P : Problem) (S : PairSet) (i p : ℕ) : Type 0 where
  outright : deletes P i p → EDeletes P S i p
  by_adding : (q : ℕ) → adds P i q → Exclude S q p → EDeletes P S i p
  by_needing : (r : ℕ) → needs P i r → Exclude S r p → (adds P i p → ⊥) → EDeletes P S i p

-- the problem with other deletions
abbrev pub strong : Problem → (ℕ → ℕ) → Problem
strong P D = record {
  count = P.count;
  conditions = P.conditions;
  additions = P.additions;
  deletions = D;
  duration = P.duration;
  release = P.release;
  gap = P.gap;
  atoms = P.atoms;
  opening = P.opening;
  goals = P.goals;
}

-- what job i takes away: what it deletes, and what it e-deletes of the facts that can hold, where its conditions are pairwise in the set
abbrev pub Takes : Problem → PairSet → (i p : ℕ) → Type 0
Takes P S i p = deletes P i p ⊎ (Fit P S i × T (S p p) × EDeletes P S i p)

-- the word D i holds what job i takes away, and no other fact
abbrev pub EWords : Problem → PairSet → (ℕ → ℕ) → Type 0
EWords P S D = (i p : ℕ) → i < P.count → T (has (D i) p) ↔ Takes P S i p
