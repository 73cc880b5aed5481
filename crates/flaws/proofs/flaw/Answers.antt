use native.Mathlib.Omega.{arith}
use Rattle.flaws.proofs.Flaws.{pick_map, pick_eased}
use Rattle.flaws.proofs.flaw.Goals as goal

pub returns-in-Fine : goal.returns-in-Fine
returns-in-Fine c P e = pick_map (λ x. record { ready = λ b l. (c.consumers-c.ensures P e).fine c.in-Fine.is b (omega arith); apart = x }) (λ n. n) (pick_eased c.eased.ensures (c.mutexes.ensures P e))
