use Prim.Native.Nat.{◌+◌, ◌≤◌}
use native.Mathlib.Omega.{arith}
use borrow.Author.Rules.{rules}
use lib.ListN.{length, length-set}
use Rattle.rules.specs.Pairs.{pair_if}
use Rattle.bindings.proofs.Count.{pair_room}
use Rattle.bindings.proofs.Filled.{puts_none, puts_pair}
use Rattle.bindings.proofs.put_if.Goals as goal

pub bounds-out-at : goal.bounds-out-at
bounds-out-at c = let h : c.args.at + 2 ≤ length c.args.out.now = pair_room c.args.yes c.args.a c.args.b _ _ c.if-yes.true c.requires.2 in omega arith

pub overflow_add-out : goal.overflow_add-out
overflow_add-out c = let h : c.args.at + 2 ≤ length c.args.out.now = pair_room c.args.yes c.args.a c.args.b _ _ c.if-yes.true c.requires.2 in search rules

pub bounds-out-at-then-yes : goal.bounds-out-at-then-yes
bounds-out-at-then-yes c = let h : c.args.at + 2 ≤ length c.args.out.now = pair_room c.args.yes c.args.a c.args.b _ _ c.if-yes.true c.requires.2 in simp length-set (omega arith)

pub overflow_add-result : goal.overflow_add-result
overflow_add-result c = let h : c.args.at + 2 ≤ length c.args.out.now = pair_room c.args.yes c.args.a c.args.b _ _ c.if-yes.true c.requires.2 in search rules

pub returns-then-yes : goal.returns-then-yes
unfolding pair_if
returns-then-yes c = rw c.if-yes.true (puts_pair c.args.at c.args.a c.args.b c.args.out.now)

pub returns : goal.returns
unfolding pair_if
returns c = rw c.if-yes.false (puts_none c.args.at c.args.out.now)
