use native.Mathlib.Omega.{arith}
use Rattle.facts.proofs.Tests.{passed}
use Rattle.flaws.proofs.Flaws.{consumer_safe}
use Rattle.flaws.proofs.consumer.Goals as goal

pub returns : goal.returns
returns c P e = consumer_safe c.args.s.now c.args.b e (omega arith) (passed c.there_for.ensures c.if-not-there_for.false-raw) (c.conditions.ensures P e)
