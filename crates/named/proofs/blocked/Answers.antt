use mathlib.Core.Bool.{Bool, ◌||◌}
use mathlib.Core.Path.{◌≡◌, ap₂, ◌∙◌, sym}
use native.Mathlib.Omega.{arith}
use Rattle.facts.proofs.Sets.{has_or}
use Rattle.facts.specs.Least.{least, any}
use Rattle.facts.proofs.Least.{any_more}
use Rattle.named.proofs.Blocks.{blocks_of}
use Rattle.named.proofs.Tests.{no_fact}
use Rattle.named.proofs.blocked.Goals as goal

pub loop-d-init : goal.loop-d-init
unfolding any least
loop-d-init c = (λ q p. no_fact p)

pub loop-d-preserved : goal.loop-d-preserved
loop-d-preserved c = (λ q p. has_or c.loop-d.w _ p ∙ ap₂ (λ (x y : Bool). x || y) (c.loop-d.invariant q p) (c.word_if-w.ensures p ∙ blocks_of c.args.l q c.args.s.now c.args.c p c.args.lag c.args.from c.loop-d.d c.in_way-way.ensures) ∙ sym (any_more _ c.loop-d.d))

pub returns : goal.returns
returns c = let e : c.loop-d.d ≡ c.args.q.jobs = omega arith in λ p. rw e at (c.loop-d.invariant c.args.q p)
