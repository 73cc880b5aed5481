use Rattle.std.proofs.Common.{rules}
use lib.ListN.{get_or}
use Rattle.rules.specs.Plans.{starts}
use Rattle.rules.specs.InStep.{freed}
use Rattle.tables.specs.Tables.{problem}
use Rattle.following.proofs.Laws.{freed_is, freed_below}
use Rattle.following.proofs.free_jobs.Goals as goal

pub returns : goal.returns
returns c =
    let a = c.args in
    freed_below (problem a.l a.q) (starts a.s.now) a.finished c.those.result
    (c.those.ensures.word (freed (problem a.l a.q) (starts a.s.now) a.finished)
    (λ j l b h. freed_is (problem a.l a.q) (starts a.s.now) a.finished (λ k. get_or a.before.of k 0) c.requires.1 j l b (search rules)))
