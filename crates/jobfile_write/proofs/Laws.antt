-- What the writer lays over the lent buffer, and what it says.
-- Assumes nothing.
use mathlib.Core.Path.{◌≡◌}
use mathlib.Core.List.{List}
use Prim.Native.Nat.{ℕ}
use lib.ListN.{length}
use Rattle.refusals.specs.Refusals.{Verdict, accepted}
use Rattle.tables.specs.declared.Loaded.{Loaded}
use Rattle.tables.specs.declared.Ask.{Ask}
use Rattle.tables.specs.declared.Answer.{Answer}
use Rattle.tables.specs.Tables.{answer_of}
use Rattle.tables.proofs.Laws.{left_so, changed_so}
use Rattle.bytes_le.specs.Little.{laid}
use Rattle.jobfile.specs.Format.{save_of, length_after}
use Rattle.jobfile.specs.Calls.{write_checks, Writes}

pub writes_no : (l : Loaded) (q : Ask) (used : ℕ) (old : List ℕ) {r : Answer} {v : Verdict} → r ≡ answer_of v 0 0 → write_checks l q used (length old) ≡ v
    → (v.number ≡ 0 → ⊥) → Writes l q used old old r
writes_no l q used old e h n = let p = left_so (length_after used q.jobs) (laid (save_of l q) used old) old e h n in record { says = p.0; bytes = p.1 }

pub writes_yes : (l : Loaded) (q : Ask) (used : ℕ) (old : List ℕ) {new : List ℕ} {r : Answer} → r ≡ answer_of accepted (length_after used q.jobs) 0
    → write_checks l q used (length old) ≡ accepted → new ≡ laid (save_of l q) used old → Writes l q used old new r
writes_yes l q used old e h k = let p = changed_so (length_after used q.jobs) (laid (save_of l q) used old) old e h k in record { says = p.0; bytes = p.1 }
