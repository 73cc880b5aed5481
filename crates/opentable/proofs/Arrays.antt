-- An array made by a closure is the places of what the closure gives.
-- Assumes nothing.
use mathlib.Core.Path.{◌≡◌}
use mathlib.Core.List.{List}
use Prim.Native.Nat.{ℕ, ◌<◌}
use Rattle.std.specs.Fn.{Mut, Called}
use Rattle.std.specs.Array.{IsFromFnResult}
use Rattle.std.proofs.lemmas.List.FromFn.{fill_by_all}
use Rattle.facts.proofs.Arrays.{made}
use Rattle.tables.specs.Tables.{filled}
use Rattle.opentable.specs.Open.{places}

-- where each call gives f at its number, the array is the places of f
pub placed : {F B : Type 0} (g : Mut F (ℕ × Unit {0}) B) (c : F) (ys : List B) (none : B) (f : ℕ → B)
    → ((i : ℕ) (y : B) (q : F) → i < 24 → Called g c (i, tt) y q → (y ≡ f i) × (q ≡ c)) → IsFromFnResult g c ys 24 → ys ≡ places none f
unfolding filled
placed g c ys none f one r = fill_by_all f ys 24 none r.long (λ k l. made g c ys 24 (λ i y. y ≡ f i) one r k none l)
