use native.Mathlib.Omega.{arith}
use Rattle.bytes_le.specs.Little.{little}
use Rattle.bytes_le.proofs.Numbers.{length_little}
use Rattle.bytes_le.proofs.Laid.{tail_back}
use Rattle.bytes_le.proofs.put.Goals as goal

pub returns : goal.returns
returns c =
    let a = c.args in
    tail_back (little a.size a.value) a.at a.out.now c.put_first.ensures (omega (arith, length_little a.size a.value))
