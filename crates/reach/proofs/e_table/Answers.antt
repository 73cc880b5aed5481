use Rattle.std.proofs.Common.{rules}
use Rattle.tables.specs.Tables.{no_job}
use Rattle.facts.proofs.Arrays.{made}
use Rattle.reach.proofs.Words.{Turned, edone_all}
use Rattle.reach.proofs.e_table.Goals as goal

pub returns : goal.returns
returns c =
    let a = c.args in
    edone_all a.s.rows a.l a.jobs c.requires _ (search rules) c.from_fn.ensures.items.long (λ i. made _ _ _ 24 (Turned a.s.rows a.l a.jobs) (λ i y q l k. (search rules, search rules)) c.from_fn.ensures.items i no_job)
