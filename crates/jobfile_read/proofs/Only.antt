-- Two readings that meet the promise are equal, refusals included.
-- Assumes nothing.
use mathlib.Core.Path.{◌≡◌, sym, ◌∙◌}
use mathlib.Core.List.{List}
use Prim.Native.Nat.{ℕ}
use Rattle.jobfile.specs.declared.Read.{Read}
use Rattle.jobfile.specs.Calls.{reading}

pub read_file_only : (file : List ℕ) (room : ℕ) (r s : Read) → r ≡ reading file room → s ≡ reading file room → r ≡ s
read_file_only file room r s x y = x ∙ sym y
