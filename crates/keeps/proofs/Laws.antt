-- Laws of the walks over the jobs of a group.
-- Assumes nothing.
use mathlib.Core.Path.{◌≡◌, subst}
use mathlib.Core.Logic.{inl, inr, ⊎_elim}
use mathlib.Core.List.{List}
use Prim.Native.Nat.{ℕ, ◌≤◌, ◌<◌}
use native.Mathlib.Omega.{arith}
use Rattle.facts.specs.Facts.{has}
use Rattle.facts.specs.Least.{least}
use Rattle.facts.specs.Walks.{Walk}
use Rattle.facts.proofs.Walks.{Done, done_next, done_map}
use Rattle.keeps.specs.Keeps.{KeptOff, AllKeptOff, KeepsAllFor}

kept_less : (s L : List ℕ) (a b : ℕ) {m r : ℕ} → r ≤ m → KeptOff s L a m b → KeptOff s L a r b
kept_less s L a b l k = ⊎_elim inl (λ x. inr (omega arith)) k

pub holds_next : (s L : List ℕ) (w : ℕ) {g v v' d m r : ℕ} → Done (λ a. a < 24 → AllKeptOff s L w a m) g v → Walk 64 v v' → d ≡ least (has v) 64 → KeepsAllFor s L w d m r → Done (λ a. a < 24 → AllKeptOff s L w a r) g v'
holds_next s L w {r = r} f k e x = done_next (done_map (λ a g l b h i. kept_less s L a b x.less (g l b h i)) f) k (subst (λ (a : ℕ). a < 24 → AllKeptOff s L w a r) e x.kept)
