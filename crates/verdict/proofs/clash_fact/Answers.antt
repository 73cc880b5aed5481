use mathlib.Core.Path.{ap, ap₂, ◌∙◌}
use Prim.Native.Nat.{ℕ}
use native.Mathlib.Omega.{arith}
use Rattle.facts.proofs.Least.{first_some}
use Rattle.rules.specs.declared.ClashNumbers.{ClashNumbers}
use Rattle.rules.specs.Clashes.{clash_of, clash_in, numbers}
use Rattle.rules.specs.Plans.{starts}
use Rattle.rules.specs.Verdicts.{clash_fact, clashes, overlap_above}
use Rattle.tables.specs.declared.Action.{Action}
use Rattle.tables.specs.Tables.{problem}
use Rattle.interference.specs.Records.{record_masks}
use Rattle.verdict.proofs.Steps.{is_first}
use Rattle.verdict.proofs.clash_fact.Goals as goal

pub unwrap-j-requires : goal.unwrap-j-requires
unfolding clashes
unwrap-j-requires c =
    let a = c.args in
    is_first (overlap_above (problem a.l a.q) (starts a.s.now) a.i) a.q.jobs c.requires.2 c.first_above.ensures

pub job_at-requires-2 : goal.job_at-requires-2
job_at-requires-2 c =
    let a = c.args in
    let h = first_some (overlap_above (problem a.l a.q) (starts a.s.now) a.i) a.q.jobs c.first_above.ensures c.unwrap-j.ensures in
    omega (arith, h.1, c.requires.0.0)

pub returns : goal.returns
unfolding clash_fact
returns c =
    let a = c.args in
    ap (λ (k : ClashNumbers). k.fact) c.why_clash-why.ensures
    ∙ ap₂ (λ (x y : Action). (numbers (clash_of (record_masks x) (record_masks y))).fact) c.job_at.ensures c.job_at-2.ensures
    ∙ ap (λ (j : ℕ). (numbers (clash_in (problem a.l a.q) a.i j)).fact) (first_some (overlap_above (problem a.l a.q) (starts a.s.now) a.i) a.q.jobs c.first_above.ensures c.unwrap-j.ensures).0
