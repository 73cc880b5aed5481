use Rattle.bindings.proofs.Filled.{no_supports, all_supports, supports_room}
use Rattle.bindings.proofs.supports.Goals as goal

pub returns-then-said-ne0 : goal.returns-then-said-ne0
returns-then-said-ne0 c = no_supports c.args.l c.args.q c.args.starts.now c.args.out.now c.plan_fault-said.ensures c.if-said-ne0.true

pub fill_supports-requires : goal.fill_supports-requires
fill_supports-requires c = supports_room c.args.l c.args.q c.args.starts.now c.args.out.now c.plan_fault-said.ensures c.if-said-ne0.false

pub returns : goal.returns
returns c = all_supports c.args.l c.args.q c.args.starts.now c.args.out.now c.plan_fault-said.ensures _ c.if-said-ne0.false c.fill_supports.ensures
