-- A turn shows that the lowest job it moves leads another.
-- Assumes nothing.
use mathlib.Core.Logic.{⊎_elim}
use Prim.Native.Nat.{ℕ, ◌≤◌, ◌<◌}
use native.Mathlib.Omega.{arith}
use lib.Dec.{T}
use Rattle.facts.proofs.Bools.{T?}
use Rattle.rules.specs.Premises.{InOrder}
use Rattle.rules.specs.Plans.{Plan, in_plan}
use Rattle.rules.specs.Order.{rank}
use Rattle.rules.proofs.Orders.{rank_in, rank_out}
use Rattle.states.specs.State.{Search, HasJob, Best, Leads}
use Rattle.turns.specs.Turns.{Turn, Moves}
use Rattle.turns.proofs.Turned.{first_to}

module _ (P : Search) (wf : InOrder P.problem) where
  -- a job that comes no later in the first plan leads
  no_later : (m n : ℕ) → n < P.problem.count → ((F : Plan) → Best P F → rank (F m) ≤ rank (F n)) → Leads P m n
  no_later m n l h = record { joins = λ F b i. record { below = l; chosen = there F b i }; order = λ F b i. omega (arith, h F b, rank_in F m i.chosen, rank_in F n (there F b i)) }
    where
      there : (F : Plan) → Best P F → HasJob P F m → T (in_plan F n)
      there F b i = ⊎_elim (λ x. x) (λ x. absurd (omega (arith, h F b, rank_in F m i.chosen, rank_out F n x))) (T? (in_plan F n))

  pub turn_leads : {to back fact : ℕ → ℕ} → Turn P.problem to back fact → (m : ℕ) → Moves P.problem to m → Leads P m (to m)
  turn_leads {to} t m w = no_later m (to m) (t.below m w.below) (λ F b. first_to wf t P.bound F m w b)
