use Rattle.std.proofs.Common.{rules, ◌≡◌}
use Rattle.tables.specs.Tables.{no_job, job_at}
use Rattle.facts.proofs.Arrays.{made}
use Rattle.distances.specs.Distances.{unreleased}
use Rattle.distances.proofs.Rows.{frees_all}
use Rattle.distances.proofs.freed.Goals as goal

pub returns : goal.returns
returns c =
    let a = c.args in
    frees_all a.l (record { jobs = c.from_fn.result; lent = a.l.lent }) (search rules) c.from_fn.ensures.items.long (λ i. made _ _ _ 24 (λ i y. y ≡ unreleased (job_at a.l i)) (λ i y q l k. (search rules, search rules)) c.from_fn.ensures.items i no_job)
