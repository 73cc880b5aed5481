-- The table by value of the job records that lie in the caller's slice.
-- Assumes nothing.
use Rattle.std.specs.Prelude.{List, min, length}
use Rattle.tables.specs.declared.Action.{Action}
use Rattle.tables.specs.declared.Loaded.{Loaded}
use Rattle.tables.specs.Tables.{record_at, tabled}

-- the first 24 of the lent records ts, and how many were lent
abbrev pub loaded : List Action → Loaded
loaded ts = tabled (record_at ts) (min (length ts) 24) (length ts)
