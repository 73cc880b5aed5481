use Rattle.plantext.proofs.Laws.{point_is, point_within}
use Rattle.plantext.proofs.point_at.Goals as goal

pub returns : goal.returns
returns c = let a = c.args in (point_is a.text.now a.at c.letter_at.ensures, point_within a.text.now a.at c.letter_at.ensures)
