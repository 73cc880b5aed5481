use Prim.Native.Nat.{ℕ}
use Rattle.facts.proofs.Walks.{Done, Over}
use Rattle.states.specs.State.{Search}
use Rattle.lent.specs.Consumers.{SomeSafe}
use Rattle.flaws.specs.Flaw.{Picks, SceneOf}
use Rattle.flaws.proofs.best_job.Given as goal

abbrev pub invariant-loop-a : goal.invariant-loop-a
invariant-loop-a l = (P : Search) (p : ℕ) → SceneOf P l.s p l.x → Over 64 l.x.cands l.a-iterator.left × Picks l.s (SomeSafe P l.s p l.x.by) (Done (λ i. ⊥) l.x.cands l.a-iterator.left) l.best.choice
