-- Settling as a call: the checks, and what is said and written.
-- Assumes nothing.
use Rattle.std.specs.Prelude.{◌≡◌, ◌||◌, List, ℕ, ◌/◌, ltb, length}
use Rattle.refusals.specs.Refusals.{Verdict}
use Rattle.rules.specs.Settling.{Settles, settle_checks}
use Rattle.tables.specs.declared.Loaded.{Loaded}
use Rattle.tables.specs.declared.Ask.{Ask}
use Rattle.tables.specs.declared.Answer.{Answer}
use Rattle.tables.specs.Tables.{problem, call_checks, Fills}
use Rattle.times.specs.Times.{pair_first, pair_second, wanted}

-- checks 3 to 9, 20 and 15, where `room` starts are lent: one a job, and two bytes a pair; bytes behind the pairs are not looked at
abbrev pub settling_checks : Loaded → Ask → (bytes : List ℕ) → (room : ℕ) → Verdict → Verdict
settling_checks l q bytes room next =
    call_checks (ltb room q.jobs || ltb (length bytes / 2) q.pairs) q.bound l q (settle_checks (problem l q) q.set (pair_first bytes) (pair_second bytes) q.pairs next)

-- behind the checks the lent memory is filled with the settled starts, or 16 is said
abbrev pub Settling : Loaded → Ask → (bytes old new : List ℕ) → Answer → Type 0
Settling l q bytes old new r = Fills (settling_checks l q bytes (length old)) (λ v value s. (value ≡ 0) × Settles (problem l q) (wanted l q bytes) v s) 0 q.jobs old new r
