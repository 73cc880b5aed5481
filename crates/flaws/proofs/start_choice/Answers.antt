use Rattle.flaws.proofs.Flaws.{pick_fine, start_safe}
use Rattle.flaws.proofs.start_choice.Goals as goal

pub returns-in-None : goal.returns-in-None
returns-in-None c P p k m = pick_fine (start_safe k m c.in-None.ensures)
