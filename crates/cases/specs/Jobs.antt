-- How the table of cases writes down jobs and sets of facts.
-- Assumes nothing.
use Rattle.std.specs.Prelude.{List, [], ◌∷◌, ◌++◌, ℕ, ◌-◌, ◌^◌, length, replicate}
use Prim.Native.String.{String}
use Rattle.std.specs.Int.Bits.{bit_or}
use Rattle.rules.specs.Table.{Problem}
use Rattle.tables.specs.declared.Action.{Action}
use Rattle.tables.specs.Tables.{problem}
use Rattle.lines.specs.Letters.{letters}

-- exactly these facts, as one word
unfoldable pub facts : List ℕ → ℕ
facts [] = 0
facts (p ∷ ps) = bit_or (facts ps) (2 ^ p)

-- a job by the facts that it needs, adds and deletes, and how long it is; it has no release
abbrev pub action : (needs adds deletes : List ℕ) (long : ℕ) → Action
action needs adds deletes long = record { conditions = facts needs; additions = facts adds; deletions = facts deletes; duration = long; release = 0 }

-- the problem of these jobs, numbered from 0
abbrev pub problem_of : List Action → (atoms : ℕ) → (opening goals : List ℕ) → Problem
problem_of jobs atoms opening goals =
    problem (record { jobs = jobs; lent = length jobs })
    (record { jobs = length jobs; atoms = atoms; opening = facts opening; goals = facts goals; bound = 0; set = 0; pairs = 0 })

-- the same job with another duration
abbrev pub lasting : (long : ℕ) → Action → Action
lasting long a = record { conditions = a.conditions; additions = a.additions; deletions = a.deletions; duration = long; release = a.release }

-- the same job with a release
abbrev pub landing : (release : ℕ) → Action → Action
landing release a = record { conditions = a.conditions; additions = a.additions; deletions = a.deletions; duration = a.duration; release = release }

-- a name table of these names, 16 bytes each
abbrev pub name_table : List String → List ℕ
name_table [] = []
name_table (n ∷ ns) = (letters n ++ replicate (16 - length (letters n)) 0) ++ name_table ns
