use Rattle.bounds.proofs.Laws.{kept_trans, kept_back, served_to, none_to, held_to, ends_within, ends_held}
use native.Mathlib.Omega.{arith}
use Rattle.bounds.proofs.rise.Goals as goal

pub last_end-requires : goal.last_end-requires
last_end-requires c = (served_to (kept_trans c.loop-t.invariant.0 c.any_at.ensures.kept) c.requires.0 (omega arith), (c.any_at.ensures.some c.if-any_at.true).size)

pub overflow_cast-result : goal.overflow_cast-result
overflow_cast-result c = omega (arith, ends_within c.any_at.ensures c.if-any_at.true c.last_end.ensures (served_to c.loop-t.invariant.0 c.requires.0 c.loop-t.invariant.3), c.loop-t.invariant.3, c.requires.0.short)

pub returns-then-any_at : goal.returns-then-any_at
returns-then-any_at c = let d = c.any_at.ensures in let i = c.loop-t.invariant in let v = served_to i.0 c.requires.0 i.3 in record { held = (held_to (kept_back i.0) (ends_held d c.if-any_at.true c.last_end.ensures v (none_to i.0 i.1)), omega (arith, ends_within d c.if-any_at.true c.last_end.ensures v, i.3)); kept = kept_trans i.0 d.kept }

pub returns-then-at-top : goal.returns-then-at-top
returns-then-at-top c = let d = c.any_at.ensures in let i = c.loop-t.invariant in record { held = rw c.if-at-top.true at (none_to (kept_back i.0) (d.none c.if-any_at.false)); kept = kept_trans i.0 d.kept }

pub loop-t-preserved : goal.loop-t-preserved
loop-t-preserved c = let d = c.any_at.ensures in let i = c.loop-t.invariant in (kept_trans i.0 d.kept, none_to (kept_back i.0) (d.none c.if-any_at.false), omega (arith, i.2, c.next-at.ensures.0), c.next-at.ensures.1)
