use Rattle.jobfile_read.proofs.Laws.{part_all, gives_no, save_no, save_on}
use Rattle.bytes_le.proofs.Laid.{tail_all}
use lib.ListN.{length}
use Prim.Native.Nat.{◌-◌, ◌*◌}
use Rattle.facts.proofs.Bools.{test_yes, test_no}
use native.Mathlib.Omega.{arith}
use Rattle.jobfile_read.proofs.read_save.Goals as goal

pub returns-then-too_far : goal.returns-then-too_far
returns-then-too_far c =
    let a = c.args in
    gives_no _ _ 2 c.nothing.ensures c.refuse.ensures
    (save_no a.file.now a.room _ _ _ (tail_all (length a.file.now - 24) a.file.now)
    c.ask_in-q.ensures.says c.distance_in-distance.ensures
    (test_yes c.too_far.ensures.says c.if-too_far.true)) (omega arith)

pub overflow_sub-first : goal.overflow_sub-first
overflow_sub-first c = let h = c.too_far.ensures.fails c.if-too_far.false in omega arith

pub slice_bounds-read_records-end : goal.slice_bounds-read_records-end
slice_bounds-read_records-end c = let h = c.too_far.ensures.fails c.if-too_far.false in omega arith

pub returns : goal.returns
returns c =
    let a = c.args in
    save_on a.file.now a.room _ _ _ (tail_all (length a.file.now - 24) a.file.now)
    c.ask_in-q.ensures.says c.distance_in-distance.ensures _
    (test_no c.too_far.ensures.says c.if-too_far.false)
    (part_all (length a.file.now - 24 - c.distance_in-distance.result) (32 * c.ask_in-q.result.jobs) a.file.now) c.read_records.ensures
