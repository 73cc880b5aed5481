use Rattle.outset.specs.Outset.{LeadsPut}
use Prim.Native.Nat.{◌-◌, ◌≤◌}
use Rattle.outset.proofs.put_leads.Given as goal

abbrev pub invariant-loop-m : goal.invariant-loop-m
invariant-loop-m l = (l.m ≤ 24) × LeadsPut l.l l.q l.m l.initial.t l.t

abbrev pub decreases-loop-m : goal.decreases-loop-m
decreases-loop-m l = 24 - l.m
