use mathlib.Core.Path.{sym, ◌∙◌}
use native.Mathlib.Omega.{arith}
use Prim.Native.Nat.{◌+◌, ◌≤◌}
use lib.ListN.{length, length-append}
use Rattle.rules.specs.Plans.{starts}
use Rattle.tables.specs.Tables.{job_at, problem}
use Rattle.lines.specs.Lines.{decimal}
use Rattle.plantext.specs.Names.{name_of}
use Rattle.plantext_write.proofs.Laws.{step_none, digits, step_room, puts_step}
use Rattle.plantext_write.proofs.put_step.Goals.{Else-start-t}
use Rattle.plantext_write.proofs.put_step.Goals as goal

pub returns-then-start-t : goal.returns-then-start-t
returns-then-start-t c = let a = c.args in step_none a.names.now (problem a.l a.q) (starts a.s.now) a.t a.j a.at a.out.now (λ e. c.if-start-t.true (c.from-start.ensures ∙ e))

pub put_with-first-requires : goal.put_with-first-requires
put_with-first-requires c =
    let room : c.args.at + (length (decimal (starts c.args.s.now c.args.j)) + length (name_of c.args.names.now c.args.j) + length (decimal (job_at c.args.l c.args.j).duration) + 16) ≤ length c.args.out.now = let a = c.args in step_room a.names.now (problem a.l a.q) (starts a.s.now) a.t a.j (sym c.from-start.ensures ∙ c.if-start-t.false) a.at (length a.out.now) c.requires.2 in
    (omega arith, omega (arith, room, digits c.from-start.ensures))

pub put_name-second-requires : goal.put_name-second-requires
put_name-second-requires c =
    let room : c.args.at + (length (decimal (starts c.args.s.now c.args.j)) + length (name_of c.args.names.now c.args.j) + length (decimal (job_at c.args.l c.args.j).duration) + 16) ≤ length c.args.out.now = let a = c.args in step_room a.names.now (problem a.l a.q) (starts a.s.now) a.t a.j (sym c.from-start.ensures ∙ c.if-start-t.false) a.at (length a.out.now) c.requires.2 in
    (omega arith, omega arith, omega (arith, room, digits c.from-start.ensures, simp length-append at c.put_with-first.ensures.next, c.out-1.given))

pub put_word-third-requires : goal.put_word-third-requires
put_word-third-requires c =
    let room : c.args.at + (length (decimal (starts c.args.s.now c.args.j)) + length (name_of c.args.names.now c.args.j) + length (decimal (job_at c.args.l c.args.j).duration) + 16) ≤ length c.args.out.now = let a = c.args in step_room a.names.now (problem a.l a.q) (starts a.s.now) a.t a.j (sym c.from-start.ensures ∙ c.if-start-t.false) a.at (length a.out.now) c.requires.2 in
    omega (arith, room, digits c.from-start.ensures, simp length-append at c.put_with-first.ensures.next, c.out-1.given, c.put_name-second.ensures.next, c.out-2-1.given)

pub put_with-requires : goal.put_with-requires
put_with-requires c =
    let room : c.args.at + (length (decimal (starts c.args.s.now c.args.j)) + length (name_of c.args.names.now c.args.j) + length (decimal (job_at c.args.l c.args.j).duration) + 16) ≤ length c.args.out.now = let a = c.args in step_room a.names.now (problem a.l a.q) (starts a.s.now) a.t a.j (sym c.from-start.ensures ∙ c.if-start-t.false) a.at (length a.out.now) c.requires.2 in
    (omega arith, omega (arith, room, digits c.from-start.ensures, simp length-append at c.put_with-first.ensures.next, c.out-1.given, c.put_name-second.ensures.next, c.out-2-1.given, c.put_word-third.ensures.next, c.out-3-1.given, digits c.from.ensures))

pub returns : goal.returns
returns c = let a = c.args in puts_step a.names.now (problem a.l a.q) (starts a.s.now) a.t a.j (sym c.from-start.ensures ∙ c.if-start-t.false) c.from-start.ensures c.from.ensures c.requires.2 c.out-1.given c.out-2-1.given c.put_with-first.ensures c.put_name-second.ensures c.put_word-third.ensures c.put_with.ensures
