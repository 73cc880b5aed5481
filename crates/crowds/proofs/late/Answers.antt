use Rattle.std.proofs.Common.{rules}
use Prim.Native.Nat.{◌≤◌, ◌<◌}
use Rattle.cells.specs.View.{view}
use Rattle.facts.proofs.Passed.{all_passed}
use Rattle.crowds.proofs.late.Goals as goal

pub returns : goal.returns
returns c e a h =
    let s = c.args in
    all_passed _ _ (λ a. (a < 24) × (s.from ≤ (view s.s.now).lo a)) (λ i q k. (search rules, search rules)) _ _ _ c.all.ensures.ran e a (rw c.each.ensures h)
