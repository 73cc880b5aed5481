use mathlib.Core.Path.{refl, sym, ap, subst, ◌∙◌}
use native.Mathlib.Omega.{arith}
use Prim.Native.Nat.{ℕ, ◌<◌}
use Rattle.refusals.specs.Refusals.{refused}
use Rattle.tables.specs.Tables.{answer_of}
use Rattle.opentable.specs.declared.OpenTable.{OpenTable}
use Rattle.opentable.specs.Open.{exchanged, reclashed, open_checks, edited}
use Rattle.opentable.specs.Steps.{with_record}
use Rattle.opentable.proofs.Edits.{replaced_absent, replaced_no, replaced_so}
use Rattle.opentable.proofs.replaced.Goals as goal

pub returns-then-t-k : goal.returns-then-t-k
returns-then-t-k c = replaced_absent c.args.t c.args.r c.refuse-answer.result (omega (arith, c.if-t-k.true, c.from-k.ensures)) (c.refuse-answer.ensures ∙ ap (λ (k : ℕ). answer_of (refused 22 k) 0 0) c.from.ensures)

pub returns-then-t-gt24 : goal.returns-then-t-gt24
returns-then-t-gt24 c = let t = c.args.t in
    let r = c.args.r in
    replaced_no t r c.overfull-answer.result (omega (arith, c.if-t-k.false, c.from-k.ensures)) (c.overfull-answer.ensures.says (exchanged t r.job r.record) refl c.if-t-gt24.true) c.overfull-answer.ensures.refuses

pub judged-requires : goal.judged-requires
judged-requires c = subst (λ (u : OpenTable). c.from-k.result < u.count) (sym c.with_record-u.ensures) (omega (arith, c.if-t-k.false))

pub returns : goal.returns
returns c =
    let t = c.args.t in
    let r = c.args.r in
    let u = c.with_record-u.result in
    replaced_so t r u c.judged.result (omega (arith, c.if-t-k.false, c.from-k.ensures))
    (c.with_record-u.ensures ∙ ap (λ (k : ℕ). with_record t k r.record t.count) c.from-k.ensures)
    (c.judged.ensures ∙ ap (λ (k : ℕ). edited (open_checks u) 0 (reclashed u k) t) c.from-k.ensures)
