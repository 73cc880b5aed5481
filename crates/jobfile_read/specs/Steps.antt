-- What a step of the reader promises.
-- Assumes nothing.
use Rattle.std.specs.Prelude.{◌≡◌, List, ℕ, ◌<◌}
use Rattle.tables.specs.declared.Ask.{Ask}
use Rattle.jobfile.specs.Format.{ask_in}

-- the numbers that a trailer gives, and the job count is one byte
pub record TrailerAsk (t : List ℕ) (r : Ask) : Type 0 where
  pub says : r ≡ ask_in t
  pub small : r.jobs < 256
