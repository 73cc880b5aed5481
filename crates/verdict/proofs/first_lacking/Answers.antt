use mathlib.Core.Path.{ap, ◌∙◌}
use Prim.Native.Nat.{ℕ}
use Rattle.facts.specs.Facts.{has}
use Rattle.verdict.proofs.Steps.{lacking_is}
use Rattle.verdict.proofs.first_lacking.Goals as goal

pub returns : goal.returns
returns c =
    let w = c.each-lacking in
    lacking_is c.args.have c.args.want w.result.left c.next.new.self.left (search) (λ p. ap (λ (x : ℕ). has x p) w.ensures ∙ c.less.ensures p) c.next.ensures.steps
