-- What the call for the earliest estimates says and writes.
-- Assumes nothing.
use Rattle.std.specs.Prelude.{◌≡◌, List, ℕ, ltb, length}
use Rattle.refusals.specs.Refusals.{Verdict, accepted}
use Rattle.rules.specs.Estimates.{Estimates}
use Rattle.tables.specs.Tables.{problem, call_checks, Fills}
use Rattle.tables.specs.declared.Loaded.{Loaded}
use Rattle.tables.specs.declared.Ask.{Ask}
use Rattle.tables.specs.declared.Answer.{Answer}

-- checks 3 to 8 and 20, where `room` numbers are lent: one a job
abbrev pub earliest_checks : Loaded → Ask → (room : ℕ) → Verdict → Verdict
earliest_checks l q room next = call_checks (ltb room q.jobs) 0 l q next

-- behind the checks the lent memory is filled with the solution
abbrev pub Earliest : Loaded → Ask → (old new : List ℕ) → Answer → Type 0
Earliest l q old new r = Fills (earliest_checks l q (length old)) (λ v value est. (v ≡ accepted) × (value ≡ 0) × Estimates (problem l q) est) 0 q.jobs old new r
