-- What a table by value holds is what lies in the slice, record by record.
-- Assumes nothing.
use mathlib.Core.Path.{◌≡◌, sym, ◌∙◌}
use mathlib.Core.List.{List}
use Prim.Native.Nat.{ℕ, ◌<◌, min}
use native.Mathlib.Decide.{dec_lt}
use native.Mathlib.Omega.{arith}
use lib.ListN.{length, replicate, length-replicate, get_or-replicate, get_or-eq_default}
use Rattle.tables.specs.declared.Action.{Action}
use Rattle.tables.specs.Tables.{no_job, record_at, job_at}
use Rattle.tables.proofs.Lent.{filled_at, filled_rest}
use Rattle.records.specs.Records.{loaded}

-- job i of the table is record i of the slice
pub loaded_at : (ts : List Action) (i : ℕ) → i < 24 → job_at (loaded ts) i ≡ record_at ts i
loaded_at ts i l = go (dec_lt i (length ts))
  where
    go : Dec (i < length ts) → job_at (loaded ts) i ≡ record_at ts i
    go (yes h) = filled_at (record_at ts) (min (length ts) 24) (replicate 24 no_job) i no_job (omega arith) (omega (arith, length-replicate {A = Action} 24 no_job))
    go (no h) =
        filled_rest (record_at ts) (min (length ts) 24) (replicate 24 no_job) i no_job (omega arith)
        ∙ (get_or-replicate 24 i no_job no_job l ∙ sym (get_or-eq_default ts no_job (omega arith)))
