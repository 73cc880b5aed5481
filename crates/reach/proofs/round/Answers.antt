use mathlib.Core.Path.{◌≡◌}
use native.Mathlib.Omega.{arith}
use borrow.Author.Rules.{rules}
use Rattle.reach.proofs.Rounds.{round_none, round_more}
use Rattle.reach.proofs.round.Goals as goal

pub loop-i-init : goal.loop-i-init
loop-i-init c = (omega arith, (search rules, λ q ok m. round_none _ ok _ (search rules)))

pub loop-i-preserved : goal.loop-i-preserved
loop-i-preserved c = (omega arith, (c.look-t.ensures.size, λ q ok m. round_more _ ok _ _ _ _ (omega arith) (c.loop-i.invariant.1.1 q ok m) c.look-t.ensures))

pub returns : goal.returns
returns c = (let e : c.loop-i.i ≡ c.args.q.jobs = omega arith in rw e at (c.loop-i.invariant.1.1 c.args.q c.requires.1 (omega arith)))
