use native.Mathlib.Omega.{arith}
use Rattle.bindings.proofs.Filled.{no_pairs, pairs_fit, all_pairs}
use Rattle.bindings.proofs.binding_pairs.Goals as goal

pub returns-then-said-ne0 : goal.returns-then-said-ne0
returns-then-said-ne0 c = no_pairs c.args.l c.args.q c.args.starts.now c.args.out.now c.plan_fault-said.ensures c.if-said-ne0.true

pub put_pairs-bytes-requires : goal.put_pairs-bytes-requires
put_pairs-bytes-requires c = let k = c.plan_fault-said.ensures.order c.if-said-ne0.false in let m = pairs_fit c.args.l c.args.q c.args.starts.now c.args.out.now c.plan_fault-said.ensures c.if-said-ne0.false in ((k.clear.few, k.given), omega arith)

pub overflow_cast-bytes : goal.overflow_cast-bytes
overflow_cast-bytes c = let m = pairs_fit c.args.l c.args.q c.args.starts.now c.args.out.now c.plan_fault-said.ensures c.if-said-ne0.false in record { fits = omega (arith, c.put_pairs-bytes.ensures.next) }

pub returns : goal.returns
returns c = all_pairs c.args.l c.args.q c.args.starts.now c.args.out.now c.plan_fault-said.ensures _ c.if-said-ne0.false c.put_pairs-bytes.ensures c.done.ensures
