-- A record as the clash looks at it.
-- Assumes nothing.
use Rattle.rules.specs.Clashes.{Masks}
use Rattle.tables.specs.declared.Action.{Action}

-- what a job with this record needs, adds and deletes
abbrev pub record_masks : Action → Masks
record_masks a = record { conditions = a.conditions; additions = a.additions; deletions = a.deletions }
