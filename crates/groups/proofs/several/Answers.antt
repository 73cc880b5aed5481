use Rattle.groups.proofs.Laws.{chosen_candidates}
use Rattle.groups.proofs.several.Goals as goal

pub returns : goal.returns
returns c =
    chosen_candidates c.requires c.killers.ensures c.adders-adders.ensures c.threats-dang.ensures c.cands.ensures c.may_start.ensures c.if-may_start.false
