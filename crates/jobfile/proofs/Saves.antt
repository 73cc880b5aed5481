-- How long a save is.
-- Assumes nothing.
use mathlib.Core.Path.{◌≡◌, refl}
use Prim.Native.Nat.{ℕ, zero, suc, ◌+◌, ◌*◌}
use native.Mathlib.Omega.{arith}
use lib.ListN.{length, length-append}
use Rattle.tables.specs.declared.Action.{Action}
use Rattle.tables.specs.declared.Loaded.{Loaded}
use Rattle.tables.specs.declared.Ask.{Ask}
use Rattle.tables.specs.Tables.{job_at}
use Rattle.bytes_le.proofs.Fields.{length_fields}
use Rattle.jobfile.specs.Format.{record_fields, record_of, records_of, trailer_fields, trailer_of, save_of}

pub length_record : (a : Action) → length (record_of a) ≡ 32
length_record a = length_fields (record_fields a)

pub length_records : (l : Loaded) (n : ℕ) → length (records_of l n) ≡ 32 * n
unfolding records_of
length_records l zero = refl
length_records l (suc k) = omega (arith, length-append (records_of l k) (record_of (job_at l k)), length_records l k, length_record (job_at l k))

pub length_trailer : (q : Ask) → length (trailer_of q) ≡ 24
length_trailer q = length_fields (trailer_fields q)

pub length_save : (l : Loaded) (q : Ask) → length (save_of l q) ≡ 32 * q.jobs + 24
unfolding save_of
length_save l q = omega (arith, length-append (records_of l q.jobs) (trailer_of q), length_records l q.jobs, length_trailer q)
