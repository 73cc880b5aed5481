-- Why a job of settled starts starts when it does, and why there is no plan.
-- Assumes nothing.
use Rattle.std.specs.Prelude.{◌≡◌, ◌≢◌, Bool, ◌&&◌, cond, List, [], ◌∷◌, ◌++◌, ℕ, ◌+◌, T, eqb, ltb}
use Rattle.facts.specs.Facts.{has}
use Rattle.facts.specs.Least.{least, any}
use Rattle.refusals.specs.Refusals.{Verdict, accepted, refused}
use Rattle.rules.specs.declared.Hindrance.{Hindrance}
use Rattle.rules.specs.declared.Hindrance.TheVariants.{Never, TooDear, Neither}
use Rattle.rules.specs.Table.{Problem}
use Rattle.rules.specs.Plans.{Plan, finish}
use Rattle.rules.specs.Estimates.{cost}
use Rattle.rules.specs.Settling.{Asked, Obeys, Settled}

-- job a fits before job j: the pair is asked for, and j starts where a has finished, with the gap
abbrev pub fits_before : Problem → Asked → Plan → (a j : ℕ) → Bool
fits_before P q z a j = q.pair a j && eqb (z j) (finish P z a + P.gap)

-- the chain that ends at job j, first job first: going back, a job at its release ends it; otherwise the lowest job that fits is named, with the chain that ends there
pub data Chain (P : Problem) (q : Asked) (z : Plan) : (j : ℕ) → List ℕ → Type 0 where
  released : {j : ℕ} → z j ≡ q.from j → Chain P q z j (j ∷ [])
  pushed : {j : ℕ} {l : List ℕ} → z j ≢ q.from j → T (any (λ a. fits_before P q z a j) P.count) → Chain P q z (least (λ a. fits_before P q z a j) P.count) l → Chain P q z j (l ++ (j ∷ []))

-- the answer to why job j starts when it does, and the chain: 16 where no starts keep what is asked, 27 at a job outside the set, else the chain by the settled starts
pub data Explained (P : Problem) (q : Asked) (j : ℕ) : Verdict → List ℕ → Type 0 where
  unsettled : {l : List ℕ} → ((y : Plan) → Obeys P q y → ⊥) → Explained P q j (refused 16 0) l
  outside : {z : Plan} {l : List ℕ} → Settled P q z → (T (q.set j) → ⊥) → Explained P q j (refused 27 j) l
  explained : {z : Plan} {l : List ℕ} → Settled P q z → T (q.set j) → Chain P q z j l → Explained P q j accepted l

-- goal p is never reachable by the estimates
abbrev pub never_reached : Problem → (est : ℕ → ℕ) → ℕ → Bool
never_reached P est p = has P.goals p && eqb (cost P est p) 65535

-- goal p costs more than the bound
abbrev pub above_bound : Problem → (est : ℕ → ℕ) → (bound p : ℕ) → Bool
above_bound P est bound p = has P.goals p && ltb bound (cost P est p)

-- why there is no plan within the bound, the first true of: a goal never reachable, a goal above the bound, each the lowest; neither
unfoldable pub hindrance_of : Problem → (est : ℕ → ℕ) → (bound : ℕ) → Hindrance
hindrance_of P est bound =
    cond (any (never_reached P est) 64) (Never (least (never_reached P est) 64))
    (cond (any (above_bound P est bound) 64) (TooDear (least (above_bound P est bound) 64)) Neither)
