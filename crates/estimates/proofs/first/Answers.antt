use Rattle.std.proofs.Common.{rules, ◌≡◌, arith, ◌<◌}
use mathlib.Core.Path.{refl, ◌∙◌}
use Rattle.tables.specs.Tables.{job_at, problem}
use Rattle.estimates.specs.Rounds.{at_first}
use Rattle.facts.proofs.Arrays.{made}
use Rattle.estimates.proofs.Laws.{first_is}
use Rattle.estimates.proofs.first.Goals as goal

pub returns : goal.returns
returns c =
    let a = c.args in
    λ i m. made _ _ _ 24 (λ i y. i < a.q.jobs → y ≡ at_first (job_at a.l i).conditions a.q.opening (job_at a.l i).release) (λ i y q l k. (search rules, search rules)) c.from_fn.ensures.items i 0 (omega (arith, c.requires.0)) m
    ∙ first_is (problem a.l a.q) (λ _. 65535) (λ k l. refl) i (omega (arith, c.requires.1 i m))
