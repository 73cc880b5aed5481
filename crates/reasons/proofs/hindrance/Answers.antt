use native.Mathlib.Omega.{arith}
use Rattle.facts.proofs.Least.{first_some, first_none}
use Rattle.tables.specs.Tables.{problem}
use Rattle.entries.specs.Entries.{entry}
use Rattle.reasons.proofs.Calls.{over, by_never, by_dear, by_neither}
use Rattle.reasons.proofs.hindrance.Goals as goal

pub overflow_cast-result : goal.overflow_cast-result
overflow_cast-result c = let a = c.args in record { fits = omega (arith, (first_some (over (problem a.l a.q) (entry a.est) a.q.bound c.fact_costs-costs.result c.fact_costs-costs.ensures 65534) 64 c.first_above.ensures c.in-Some.is).1) }

pub returns-in-Some : goal.returns-in-Some
returns-in-Some c = let a = c.args in let f = (first_some (over (problem a.l a.q) (entry a.est) a.q.bound c.fact_costs-costs.result c.fact_costs-costs.ensures 65534) 64 c.first_above.ensures c.in-Some.is) in by_never (problem a.l a.q) (entry a.est) a.q.bound c.fact_costs-costs.result c.fact_costs-costs.ensures f.0 f.1

pub overflow_cast-result-in-Some-first_above : goal.overflow_cast-result-in-Some-first_above
overflow_cast-result-in-Some-first_above c = let a = c.args in record { fits = omega (arith, (first_some (over (problem a.l a.q) (entry a.est) a.q.bound c.fact_costs-costs.result c.fact_costs-costs.ensures a.q.bound) 64 c.first_above-2.ensures c.in-Some-first_above.is).1) }

pub returns-in-Some-first_above : goal.returns-in-Some-first_above
returns-in-Some-first_above c = let a = c.args in let f = (first_some (over (problem a.l a.q) (entry a.est) a.q.bound c.fact_costs-costs.result c.fact_costs-costs.ensures a.q.bound) 64 c.first_above-2.ensures c.in-Some-first_above.is) in by_dear (problem a.l a.q) (entry a.est) a.q.bound c.fact_costs-costs.result c.fact_costs-costs.ensures (first_none (over (problem a.l a.q) (entry a.est) a.q.bound c.fact_costs-costs.result c.fact_costs-costs.ensures 65534) 64 c.first_above.ensures c.in_default.is) (omega arith) f.0 f.1

pub returns-in-None : goal.returns-in-None
returns-in-None c = let a = c.args in by_neither (problem a.l a.q) (entry a.est) a.q.bound c.fact_costs-costs.result c.fact_costs-costs.ensures (first_none (over (problem a.l a.q) (entry a.est) a.q.bound c.fact_costs-costs.result c.fact_costs-costs.ensures 65534) 64 c.first_above.ensures c.in_default.is) (omega arith) (first_none (over (problem a.l a.q) (entry a.est) a.q.bound c.fact_costs-costs.result c.fact_costs-costs.ensures a.q.bound) 64 c.first_above-2.ensures c.in-None.is) (omega arith)
