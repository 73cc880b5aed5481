-- What is so of an open table, however it was edited.
-- Assumes nothing.
use Rattle.std.specs.Prelude.{◌≡◌, List, [], ◌∷◌, ℕ, ◌≤◌, length}
use Rattle.refusals.specs.Refusals.{accepted}
use Rattle.tables.specs.declared.Action.{Action}
use Rattle.tables.specs.Tables.{no_job, record_at}
use Rattle.opentable.specs.declared.OpenTable.{OpenTable}
use Rattle.opentable.specs.declared.Replacement.{Replacement}
use Rattle.opentable.specs.declared.Edited.{Edited}
use Rattle.opentable.specs.Open.{present, bit_rows, clash_bit, open_checks, beginning, adding, replacing, removing}

-- each row equals the interference rule over the present jobs
abbrev pub Right : OpenTable → Type 0
Right t = t.rows ≡ bit_rows (clash_bit (present t))

-- its rows are right, its jobs pass their checks, and behind the last job stands nothing
pub record Orderly (t : OpenTable) : Type 0 where
  pub right : Right t
  pub taken : open_checks t ≡ accepted
  pub size : length t.jobs ≡ 24
  pub behind : (i : ℕ) → t.count ≤ i → record_at t.jobs i ≡ no_job

-- an edit
pub data Edit : Type 0 where
  begin : (atoms : ℕ) → Edit
  add : Action → Edit
  replace : Replacement → Edit
  remove : (job : ℕ) → Edit

-- what an edit says and leaves
abbrev pub editing : OpenTable → Edit → Edited
editing t (begin atoms) = beginning t atoms
editing t (add a) = adding t a
editing t (replace r) = replacing t r
editing t (remove job) = removing t job

-- the table after a list of edits, accepted or refused, the first of the list first
unfoldable pub after_edits : OpenTable → List Edit → OpenTable
after_edits t [] = t
after_edits t (e ∷ es) = after_edits (editing t e).table es
