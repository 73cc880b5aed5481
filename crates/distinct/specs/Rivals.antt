-- Jobs that want one fact, no two of which can have the same support.
-- Assumes nothing.
use Rattle.std.specs.Prelude.{◌⊎◌, ◌≢◌, List, ℕ, ◌<◌, T}
use Rattle.facts.specs.Facts.{has}
use Rattle.facts.specs.Words.{Covers}
use Rattle.rules.specs.Table.{Problem, needs}
use Rattle.rules.specs.Premises.{adds, deletes}
use Rattle.rules.specs.Clashes.{interfere}
use Rattle.states.specs.State.{Search, St, Must, StartMay, JobMay}
use Rattle.rules.specs.Supports.{task}
use Rattle.cells.specs.View.{view}
use Rattle.lent.specs.Lent.{wants_of, adders_of, killers_of, hits_of}
use Rattle.distinct.specs.declared.Band.{Band}

-- behind b the support of p for c is another job: b deletes p, or a condition of c that comes back only with p deleted
abbrev pub Parted : Problem → (p b c : ℕ) → Type 0
Parted P p b c = deletes P b p ⊎ ((q : ℕ) × needs P c q × deletes P b q × ((x : ℕ) → x < P.count → adds P x q → deletes P x p))

-- and they can't run at once
pub record Rival (P : Problem) (p b c : ℕ) : Type 0 where
  pub meet : T (interfere P c b)
  pub parted : Parted P p b c

-- the jobs of the word are inside, want p, and are rivals, each of each
pub record Rivals (P : Search) (s : St) (p m : ℕ) : Type 0 where
  pub inside : (c : ℕ) → T (has m c) → T (s.inside c)
  pub wants : (c : ℕ) → T (has m c) → needs P.problem c p
  pub each : (b c : ℕ) → T (has m b) → T (has m c) → b ≢ c → Rival P.problem p b c

-- every job that may support p is in the word, and 24 is where Start may
pub record Givers (P : Search) (s : St) (p w : ℕ) : Type 0 where
  pub jobs : (a c : ℕ) → JobMay P s p (task c) a → T (has w a)
  pub opening : (c : ℕ) → StartMay P s p (task c) → T (has w 24)

-- ── what the contracts cite ──

-- b deletes a fact q of all, and every job that adds q is one of kills
pub record Pinned (L : List ℕ) (kills all b : ℕ) : Type 0 where
  pub q : ℕ
  pub short : q < 64
  pub wanted : T (has all q)
  pub lost : T (has (killers_of L q) b)
  pub back : Covers kills (adders_of L q)

-- every job of r is of w, or pinned by q
pub record WithPin (L : List ℕ) (w q kills r : ℕ) : Type 0 where
  pub of : (all b : ℕ) → T (has all q) → T (has r b) → T (has w b) ⊎ Pinned L kills all b

-- every job of r interferes with c, and is one of kills or pinned by a condition of c
pub record RivalWord (L : List ℕ) (c kills r : ℕ) : Type 0 where
  pub meet : (b : ℕ) → T (has r b) → T (has (hits_of L c) b)
  pub parted : (b : ℕ) → T (has r b) → T (has kills b) ⊎ Pinned L kills (wants_of L c) b

-- job j is of `common`, inside, and wants p
pub record Wanting (s L : List ℕ) (p common j : ℕ) : Type 0 where
  pub common? : T (has common j)
  pub inside : T ((view s).inside j)
  pub wants : T (has (wants_of L j) p)

-- the members are rivals, and so is each job of `common` behind which a member stands
pub record Banded (P : Search) (s : List ℕ) (p : ℕ) (b : Band) : Type 0 where
  pub rivals : Rivals P (view s) p b.members
  pub common : (j c : ℕ) → T (has b.common j) → T (has b.members c) → Rival P.problem p j c

-- the jobs of the word are in every plan left
abbrev pub AllMust : (s : List ℕ) (w : ℕ) → Search → Type 0
AllMust s w P = (a : ℕ) → T (has w a) → a < 24 → Must P (view s) a
