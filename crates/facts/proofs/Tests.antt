-- What a branch on a flag says of the test that the flag is.
-- Assumes nothing.
use mathlib.Core.Path.{◌≡◌}
use mathlib.Core.Bool.{Bool, true, false, not}
use borrow.Author.Tests.{not-false, not-true}
use lib.Dec.{T}
use Rattle.facts.proofs.Bools.{test_yes, test_no}

-- the branch on !r was not taken
pub passed : {r x : Bool} → r ≡ x → not r ≡ false → T x
passed {r} e h = test_yes e (not-false r h)

-- the branch on !r was taken
pub failed : {r x : Bool} → r ≡ x → not r ≡ true → T x → ⊥
failed {r} e h = test_no e (not-true r h)

pub same : {r x : Bool} → r ≡ x → T r → T x
same e h = rw e at h
