use Rattle.std.proofs.Common.{rules, get_or}
use Rattle.tables.specs.Tables.{job_at}
use Rattle.facts.proofs.Arrays.{made}
use Rattle.outset.specs.Outset.{Waits}
use Rattle.outset.proofs.all_wait.Goals as goal

pub returns : goal.returns
returns c =
    let a = c.args in
    λ i. made _ _ _ 24 (λ i y. Waits a.s.rows (job_at a.l i).conditions (get_or a.est i 0) y) (λ i y q l k. (search rules, search rules)) c.from_fn.ensures.items i 0
