use mathlib.Core.Path.{◌≡◌}
use Rattle.bytes_le.specs.Little.{at_front}
use Rattle.jobfile.specs.Format.{records_of}
use Rattle.jobfile_write.proofs.put_records.Given as goal

abbrev pub invariant-loop-i : goal.invariant-loop-i
invariant-loop-i l = l.out ≡ at_front (records_of l.l l.i) l.initial.out
