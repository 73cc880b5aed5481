-- What a save holds: the numbers and records that reading it gives back.
-- Assumes nothing.
use Rattle.std.specs.Prelude.{ℕ}
use Rattle.tables.specs.declared.Loaded.{Loaded}
use Rattle.tables.specs.declared.Ask.{Ask}
use Rattle.tables.specs.Tables.{job_at, tabled}

-- the numbers saved: a file holds neither a set nor pairs
abbrev pub saved : Ask → Ask
saved q = record { jobs = q.jobs; atoms = q.atoms; opening = q.opening; goals = q.goals; bound = q.bound; set = 0; pairs = 0 }

-- the records saved, as a caller that lends `room` records gets them
abbrev pub kept : Loaded → (n room : ℕ) → Loaded
kept l n room = tabled (job_at l) n room
