use Rattle.outset.proofs.Led.{led_or}
use Rattle.outset.proofs.follower.Goals as goal

pub returns-clause-led : goal.returns-clause-led
returns-clause-led c = led_or c.args.l c.args.q c.args.m _ c.led.ensures c.unwrap_or.ensures
