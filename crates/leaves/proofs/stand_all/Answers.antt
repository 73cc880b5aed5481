use mathlib.Core.Path.{refl}
use Rattle.std.proofs.Common.{rules}
use Rattle.std.proofs.lemmas.Iterator.{cases_from_all, YieldsList-from_range}
use Rattle.states.specs.State.{Search, Dead}
use Rattle.cells.specs.View.{view}
use Rattle.lent.specs.Lent.{Lent}
use Rattle.leaves.specs.Leaf.{InPlaceIf}
use Rattle.leaves.proofs.Laws.{verified}
use Rattle.leaves.proofs.stand_all.Goals as goal

pub returns : goal.returns
returns c =
    let s = c.args.s.now in
    let t = c.args.t.now in
    verified 24
    (cases_from_all _ _ _ (InPlaceIf s t) (λ j. (P : Search) → Lent t P → Dead P (view s)) c.all.ensures.ran (YieldsList-from_range 0 24 24 refl refl)
    (λ x q k. search rules) (λ x q k. search rules))
