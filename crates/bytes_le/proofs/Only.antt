-- Two results that meet a promise are equal.
-- Assumes nothing.
use mathlib.Core.Path.{◌≡◌, sym, ◌∙◌}
use mathlib.Core.List.{List}
use Prim.Native.Nat.{ℕ}
use Rattle.bytes_le.specs.Little.{little, laid}
use Rattle.bytes_le.specs.Steps.{ReadsNumber}

pub number_only : (size : ℕ) (xs : List ℕ) (at r s : ℕ) → ReadsNumber size xs at r → ReadsNumber size xs at s → r ≡ s
number_only size xs at r s x y = x.says ∙ sym y.says

pub put_only : (value size at : ℕ) (old new new' : List ℕ) → new ≡ laid (little size value) at old → new' ≡ laid (little size value) at old → new ≡ new'
put_only value size at old new new' x y = x ∙ sym y
