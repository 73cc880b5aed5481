-- Pairs of jobs as bytes, and what settling is asked with them.
-- Assumes nothing.
use Rattle.std.specs.Prelude.{List, ℕ, ◌+◌, ◌*◌, get_or}
use Rattle.rules.specs.Settling.{Asked, asked_by}
use Rattle.tables.specs.declared.Loaded.{Loaded}
use Rattle.tables.specs.declared.Ask.{Ask}
use Rattle.tables.specs.Tables.{problem}

-- pair k is two bytes, first then second
abbrev pub pair_first : (bytes : List ℕ) → ℕ → ℕ
pair_first bytes k = get_or bytes (2 * k) 0

-- the second job of pair k
abbrev pub pair_second : (bytes : List ℕ) → ℕ → ℕ
pair_second bytes k = get_or bytes (2 * k + 1) 0

-- what is asked, of the jobs of the table
abbrev pub wanted : Loaded → Ask → (bytes : List ℕ) → Asked
wanted l q bytes = asked_by (problem l q) q.set (pair_first bytes) (pair_second bytes) q.pairs q.bound
