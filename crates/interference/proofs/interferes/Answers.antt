use mathlib.Core.Path.{sym, ap, ◌∙◌}
use mathlib.Core.Bool.{not}
use borrow.Author.Tests.{eq-eqb, ne_eqb}
use Rattle.rules.specs.Clashes.{interfere, clash_in}
use Rattle.tables.specs.Tables.{problem}
use Rattle.interference.proofs.Laws.{told_none, told_some}
use Rattle.interference.proofs.interferes.Goals as goal
use Rattle.interference.proofs.interferes.Goals.{in-None, in_default}

pub returns-after-matches : goal.returns-after-matches
unfolding interfere
returns-after-matches c q =
    let k = clash_in (problem c.args.l q) c.args.i c.args.j in
    rw (ne_eqb c.args.i c.args.j c.if-i-j.true) (elim c.match-matches.branch [
      | in-None w ↦ ap not w.matches-is ∙ sym (told_none k (sym c.clash.ensures ∙ w.in-None.is))
      | in_default w ↦ ap not w.matches-is ∙ sym (told_some k (λ e. w.in_default.not-None (c.clash.ensures ∙ e)))
    ])

pub returns-else-i-j : goal.returns-else-i-j
unfolding interfere
returns-else-i-j c q = simp (eq-eqb c.args.i c.args.j c.if-i-j.false)
