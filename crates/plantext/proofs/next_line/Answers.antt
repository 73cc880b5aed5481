use mathlib.Core.Path.{ap, ◌∙◌}
use Prim.Native.Nat.{ℕ, ◌+◌}
use Rattle.plantext.specs.Form.{number_end, next_line}
use Rattle.plantext.proofs.next_line.Goals as goal

pub returns : goal.returns
unfolding next_line
returns c = let t = c.args.text.now in ap (λ (n : ℕ). n + 2) (c.number_end.ensures.says ∙ ap (number_end t) c.duration_at.ensures.0)
