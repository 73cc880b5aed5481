use Rattle.rules.specs.Plans.{starts}
use Rattle.rules.specs.InStep.{finished_of}
use Rattle.tables.specs.Tables.{problem}
use Rattle.following.proofs.Laws.{facts_of}
use Rattle.following.proofs.facts_now.Goals as goal

pub returns : goal.returns
returns c =
    let a = c.args in
    facts_of (problem a.l a.q) _ (finished_of a.finished (starts a.s.now)) a.q.bound _ c.finished_starts-left.ensures c.facts_at.ensures
