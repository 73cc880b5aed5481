use Rattle.plantext_read.proofs.Calls.{call_refused, clear, room, names_refused, line_refused, read_all}
use Rattle.plantext_read.proofs.read_text.Goals as goal

pub returns-then-fault-ne0 : goal.returns-then-fault-ne0
returns-then-fault-ne0 c = let a = c.args in call_refused a.l a.q a.names.now a.text.now a.out.now c.too_short-short.ensures c.call_fault-fault.ensures c.if-fault-ne0.true

pub names_fault-bad-requires : goal.names_fault-bad-requires
names_fault-bad-requires c = let a = c.args in (clear a.l a.q a.names.now a.text.now a.out.now c.too_short-short.ensures c.call_fault-fault.ensures c.if-fault-ne0.false).few

pub returns-then-bad-ne0 : goal.returns-then-bad-ne0
returns-then-bad-ne0 c = let a = c.args in names_refused a.l a.q a.names.now a.text.now a.out.now c.too_short-short.ensures c.call_fault-fault.ensures c.if-fault-ne0.false c.names_fault-bad.ensures c.if-bad-ne0.true

pub read_lines-requires : goal.read_lines-requires
read_lines-requires c = let a = c.args in (clear a.l a.q a.names.now a.text.now a.out.now c.too_short-short.ensures c.call_fault-fault.ensures c.if-fault-ne0.false).few

pub returns-in-Err : goal.returns-in-Err
returns-in-Err c = let a = c.args in line_refused a.l a.q a.names.now a.text.now a.out.now c.too_short-short.ensures c.call_fault-fault.ensures c.if-fault-ne0.false c.names_fault-bad.ensures c.if-bad-ne0.false c.in-Err.answer c.in-Err.ensures

pub fill-requires : goal.fill-requires
fill-requires c = let a = c.args in ((clear a.l a.q a.names.now a.text.now a.out.now c.too_short-short.ensures c.call_fault-fault.ensures c.if-fault-ne0.false).few, room a.l a.q a.names.now a.text.now a.out.now c.too_short-short.ensures c.call_fault-fault.ensures c.if-fault-ne0.false)

pub returns-in-Ok : goal.returns-in-Ok
returns-in-Ok c = let a = c.args in read_all a.l a.q a.names.now a.text.now a.out.now c.too_short-short.ensures c.call_fault-fault.ensures c.if-fault-ne0.false c.names_fault-bad.ensures c.if-bad-ne0.false c.in-Ok.starts c.in-Ok.ensures c.done.ensures c.fill.ensures
