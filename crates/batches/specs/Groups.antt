-- The house groups: the stages of each, with their durations and whether they hold the wash bay.
-- Assumes nothing.
use Rattle.std.specs.Prelude.{true, false, List, [], ◌∷◌, ℕ}
use Rattle.batches.specs.declared.Stage.{Stage}

-- a stage of so many quarter hours that does not hold the bay
abbrev pub bench_stage : ℕ → Stage
bench_stage d = record { duration = d; bay = false }

-- a stage of so many quarter hours that holds it
abbrev pub bay_stage : ℕ → Stage
bay_stage d = record { duration = d; bay = true }

-- groups 0 to 11
unfoldable pub house_groups : List (List Stage)
house_groups =
    (bench_stage 4 ∷ [])
    ∷ (bench_stage 4 ∷ bay_stage 3 ∷ [])
    ∷ (bench_stage 6 ∷ bay_stage 3 ∷ bench_stage 8 ∷ [])
    ∷ (bench_stage 4 ∷ bench_stage 12 ∷ [])
    ∷ (bench_stage 8 ∷ bay_stage 3 ∷ bench_stage 16 ∷ [])
    ∷ (bench_stage 4 ∷ bay_stage 3 ∷ bench_stage 8 ∷ bench_stage 24 ∷ [])
    ∷ (bench_stage 12 ∷ [])
    ∷ (bench_stage 6 ∷ bay_stage 2 ∷ bench_stage 12 ∷ bay_stage 3 ∷ [])
    ∷ (bench_stage 4 ∷ bench_stage 8 ∷ bench_stage 16 ∷ bench_stage 32 ∷ [])
    ∷ (bench_stage 8 ∷ bay_stage 3 ∷ bench_stage 24 ∷ bay_stage 3 ∷ bench_stage 48 ∷ [])
    ∷ (bench_stage 4 ∷ bay_stage 2 ∷ bench_stage 8 ∷ bay_stage 2 ∷ bench_stage 16 ∷ bench_stage 32 ∷ [])
    ∷ (bench_stage 96 ∷ [])
    ∷ []
