-- The numbers of open tables as one table: what a line claims, and the lines.
-- Assumes nothing.
use Rattle.std.specs.Prelude.{◌≡◌, List, [], ◌∷◌, ◌++◌, ℕ, length, get_or}
use Rattle.refusals.specs.Refusals.{Verdict, accepted, refused}
use Rattle.tables.specs.Tables.{answer_of}
use Rattle.opentable.specs.declared.OpenTable.{OpenTable}
use Rattle.opentable.specs.Open.{places, empty_of}
use Rattle.opentable.specs.Rows.{Edit, begin, add, replace, remove, editing, after_edits}
use Rattle.cases.specs.Jobs.{action, lasting}
use Rattle.cases.specs.Cases.{unpack, drench, warm, wash}

-- the kinds of claim
pub data DeskClaim : Type 0 where
  -- a table begun with so many atoms and edited so keeps these rows for its jobs
  keeping : (atoms : ℕ) → (edits : List Edit) → (rows : List ℕ) → DeskClaim
  -- of the next edit of such a table this is said, with this value
  edited_next : (atoms : ℕ) → (edits : List Edit) → Edit → Verdict → (value : ℕ) → DeskClaim

-- the table has as many jobs as there are rows, and keeps these rows for them and 0 behind them
pub record KeepsRows (t : OpenTable) (rows : List ℕ) : Type 0 where
  pub count : t.count ≡ length rows
  pub kept : t.rows ≡ places 0 (λ i. get_or rows i 0)

-- what a line claims
abbrev pub IsKept : DeskClaim → Type 0
IsKept (keeping atoms es rows) = KeepsRows (after_edits (empty_of atoms) es) rows
IsKept (edited_next atoms es e v value) = (editing (after_edits (empty_of atoms) es) e).answer ≡ answer_of v value 0

-- every line's claim is so
abbrev pub AllKept : List DeskClaim → Type 0
AllKept [] = Unit {0}
AllKept (c ∷ cs) = IsKept c × AllKept cs

-- all four of jobs U added to an open table
abbrev pub add_u : List Edit
add_u = add unpack ∷ add drench ∷ add warm ∷ add wash ∷ []

-- the lines
unfoldable pub desk_cases : List DeskClaim
desk_cases =
    -- of jobs U, added one by one, drench and wash clash
    keeping 5 add_u (0 ∷ 8 ∷ 0 ∷ 2 ∷ [])
    -- warm removed, wash and its bits move down by one; added again it is job 3
    ∷ keeping 5 (add_u ++ (remove 2 ∷ [])) (0 ∷ 4 ∷ 2 ∷ [])
    ∷ edited_next 5 (add_u ++ (remove 2 ∷ [])) (add warm) accepted 3
    -- unpack replaced by a job that deletes fact 1, which the other three need
    ∷ keeping 5 (add_u ++ (replace (record { job = 0; «record» = action [] (0 ∷ []) (1 ∷ []) 1 }) ∷ [])) (14 ∷ 9 ∷ 1 ∷ 3 ∷ [])
    -- there is no job 4; the fifth job would be job 4; 65 atoms are refused
    ∷ edited_next 5 add_u (remove 4) (refused 22 4) 0
    ∷ edited_next 5 add_u (add (lasting 961 warm)) (refused 6 4) 0
    ∷ edited_next 5 add_u (begin 65) (refused 4 0) 0
    ∷ []
