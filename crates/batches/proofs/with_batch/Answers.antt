use mathlib.Core.Path.{◌≡◌, refl, sym, ap, subst}
use mathlib.Core.Bool.{◌||◌}
use Prim.Native.Nat.{ℕ, ◌+◌, ◌-◌}
use native.Mathlib.Omega.{arith}
use lib.Dec.{eqb}
use lib.ListN.{length}
use borrow.Author.Rules.{rules}
use Rattle.facts.specs.Facts.{has}
use Rattle.facts.specs.Words.{Word}
use Rattle.batches.proofs.Laws.{Fair, group_fair}
use Rattle.batches.proofs.with_batch.Goals as goal

pub with_stages-table-requires : goal.with_stages-table-requires
with_stages-table-requires c = rw c.stages_of-stages.ensures ((group_fair c.args.group (search rules)).few, c.requires.1, c.requires.2)

pub group_jobs-requires : goal.group_jobs-requires
group_jobs-requires c = rw c.stages_of-stages.ensures (group_fair c.args.group (search rules)).few

pub overflow_add-facts : goal.overflow_add-facts
overflow_add-facts c = omega (arith, (subst Fair (sym c.stages_of-stages.ensures) (group_fair c.args.group (search rules))).few, c.requires.2)

pub overflow_sub-facts : goal.overflow_sub-facts
overflow_sub-facts c = omega (arith, (subst Fair (sym c.stages_of-stages.ensures) (group_fair c.args.group (search rules))).some)

pub with-goals-requires : goal.with-goals-requires
with-goals-requires c = omega (arith, (subst Fair (sym c.stages_of-stages.ensures) (group_fair c.args.group (search rules))).few, c.requires.2)

pub returns : goal.returns
returns c =
    let d = c.args.d in
    let ss = c.stages_of-stages.result.now in
    let e : d.facts + length ss - 1 ≡ d.facts + (length ss - 1) = omega (arith, (subst Fair (sym c.stages_of-stages.ensures) (group_fair c.args.group (search rules))).some) in
    rw (sym c.stages_of-stages.ensures)
    (record {
      jobs = ap (λ (m : ℕ). d.jobs + m) c.group_jobs.ensures;
      facts = refl;
      goals = subst (λ (m : ℕ). Word (λ p. has d.goals p || eqb p m) c.with-goals.result) e c.with-goals.ensures;
      table = c.with_stages-table.ensures;
    })
