-- What planning within a bound and the least bound say and write.
-- Assumes nothing.
use Rattle.std.specs.Prelude.{◌≡◌, List, ℕ, ltb, length}
use Rattle.refusals.specs.Refusals.{Verdict}
use Rattle.rules.specs.Order.{Planned, Bounded}
use Rattle.tables.specs.declared.Loaded.{Loaded}
use Rattle.tables.specs.declared.Ask.{Ask}
use Rattle.tables.specs.declared.Answer.{Answer}
use Rattle.tables.specs.Tables.{problem, call_checks, Fills}

-- checks 3 to 9 and 20, where `room` starts are lent: one a job
abbrev pub planning_checks : Loaded → Ask → (room : ℕ) → Verdict → Verdict
planning_checks l q room next = call_checks (ltb room q.jobs) q.bound l q next

-- behind the checks the lent memory is filled with the first plan within the bound, or 10 is said
abbrev pub PlansWithin : Loaded → Ask → (old new : List ℕ) → Answer → Type 0
PlansWithin l q old new r = Fills (planning_checks l q (length old)) (λ v value s. (value ≡ 0) × Planned (problem l q) q.bound v s) 0 q.jobs old new r

-- behind the checks the least bound is returned, with its first plan in the lent memory; 65,535 with any refusal
abbrev pub BoundsWithin : Loaded → Ask → (old new : List ℕ) → Answer → Type 0
BoundsWithin l q old new r = Fills (planning_checks l q (length old)) (Bounded (problem l q) q.bound) 65535 q.jobs old new r
