use mathlib.Core.Path.{sym, subst}
use native.Mathlib.Omega.{arith}
use Prim.Native.Nat.{◌≤◌}
use Rattle.tables.specs.declared.Loaded.{Loaded}
use Rattle.opentable.specs.Steps.{Clashing}
use Rattle.opentable.proofs.Laws.{reclashed_so}
use Rattle.opentable.proofs.reclashed.Goals as goal

pub clash_word-word-requires : goal.clash_word-word-requires
clash_word-word-requires c = (omega (arith, c.requires.0, c.requires.1), subst (λ (l : Loaded). l.lent ≤ 24) (sym c.jobs_of.ensures) c.requires.1)

pub returns : goal.returns
returns c = let a = c.args in
    reclashed_so a.t a.k c.clash_word-word.result c.rows_anew-rows.result c.requires.0 c.requires.1 (subst (λ (l : Loaded). Clashing l a.k c.clash_word-word.result) c.jobs_of.ensures c.clash_word-word.ensures) c.rows_anew-rows.ensures
