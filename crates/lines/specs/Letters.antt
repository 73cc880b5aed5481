-- A text as the codes of its letters.
-- Assumes nothing.
use Rattle.std.specs.Prelude.{List, [] as []ᴸ, ◌∷◌ as ◌∷ᴸ◌, ℕ}
use Prim.Native.Char.{code}
use Prim.Native.String.{String, [], ◌∷◌}

-- the codes of the letters
abbrev pub letters : String → List ℕ
letters [] = []ᴸ
letters (c ∷ t) = code c ∷ᴸ letters t
