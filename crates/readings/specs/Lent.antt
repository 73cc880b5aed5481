-- The marks as the code holds them. Cited by private functions only: nobody has to believe it. Definitions only.
use Rattle.std.specs.Prelude.{ℕ, ◌<◌, ◌≤◌}
use Rattle.readings.specs.declared.MarkTables.{MarkTables}
use Rattle.readings.specs.Marks.{Marks, marks_of}

-- the marks of the three tables and their count
abbrev pub marks_in : MarkTables → Marks
marks_in t = marks_of t.channels.now t.levels.now t.facts.now t.count

-- the tables hold as many as count, and each has a fact of a word
abbrev pub Readable : Marks → Type 0
Readable m = (m.count ≤ m.room) × ((i : ℕ) → i < m.count → (m.mark i).fact < 64)
