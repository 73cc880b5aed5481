use mathlib.Core.Path.{refl, sym, ap, subst, ◌∙◌}
use native.Mathlib.Omega.{arith}
use Prim.Native.Nat.{◌<◌}
use Rattle.opentable.specs.declared.OpenTable.{OpenTable}
use Rattle.opentable.specs.Open.{enlarged, reclashed, open_checks, edited}
use Rattle.opentable.proofs.Edits.{refused_so}
use Rattle.opentable.proofs.added.Goals as goal

pub returns-then-n-ge24 : goal.returns-then-n-ge24
returns-then-n-ge24 c = let t = c.args.t in
    let u = enlarged t c.args.a in
    refused_so (open_checks u) c.overfull-answer.result t.count (reclashed u t.count) t (c.overfull-answer.ensures.says u refl (omega (arith, c.if-n-ge24.true))) c.overfull-answer.ensures.refuses

pub judged-requires : goal.judged-requires
judged-requires c = subst (λ (u : OpenTable). c.args.t.count < u.count) (sym c.with_record-u.ensures) (omega arith)

pub returns : goal.returns
returns c = let t = c.args.t in
    c.judged.ensures ∙ ap (λ (u : OpenTable). edited (open_checks u) t.count (reclashed u t.count) t) c.with_record-u.ensures
