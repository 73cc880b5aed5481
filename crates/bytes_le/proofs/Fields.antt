-- Numbers one behind another: how long they are, how they are read and how they are written.
-- Assumes nothing.
use mathlib.Core.Path.{◌≡◌, refl, sym, ap, ◌∙◌, subst}
use mathlib.Core.List.{List, [], ◌∷◌, ◌++◌, append_assoc, append-nil}
use Prim.Native.Nat.{ℕ, ◌+◌, ◌^◌, ◌<◌}
use native.Mathlib.Omega.{arith}
use lib.ListN.{length, length-append}
use Rattle.bytes_le.specs.Little.{little, number, fields, at_front, laid}
use Rattle.bytes_le.specs.Steps.{Bytes}
use Rattle.bytes_le.proofs.Numbers.{length_little}
use Rattle.bytes_le.proofs.Stands.{Stands, stands_left, stands_right, stands_both, stands_number, number_stands}
use Rattle.bytes_le.proofs.Laid.{over_then}

-- how many bytes they take
abbrev pub total : List (ℕ × ℕ) → ℕ
total [] = 0
total ((k, v) ∷ fs) = k + total fs

pub length_fields : (fs : List (ℕ × ℕ)) → length (fields fs) ≡ total fs
unfolding fields
length_fields [] = refl
length_fields ((k, v) ∷ fs) = omega (arith, length-append (little k v) (fields fs), length_little k v, length_fields fs)

-- each fits its bytes
abbrev pub Fit : List (ℕ × ℕ) → Type 0
Fit [] = Unit {0}
Fit ((k, v) ∷ fs) = (v < 256 ^ k) × Fit fs

-- each is read where it stands: so far behind the base
abbrev pub Found : List (ℕ × ℕ) → (base off : ℕ) → List ℕ → Type 0
Found [] base off xs = Unit {0}
Found ((k, v) ∷ fs) base off xs = (number k xs (base + off) ≡ v) × Found fs base (off + k) xs

pub fields_found : (fs : List (ℕ × ℕ)) (base off : ℕ) (xs : List ℕ) → Fit fs → Stands (fields fs) (base + off) xs → Found fs base off xs
unfolding fields
fields_found [] base off xs f s = tt
fields_found ((k, v) ∷ fs) base off xs f s = (
  stands_number k v (base + off) xs f.0 (stands_left (little k v) (fields fs) (base + off) xs s),
  fields_found fs base (off + k) xs f.1 (subst (λ (n : ℕ). Stands (fields fs) n xs) next (stands_right (little k v) (fields fs) (base + off) xs s)),
)
  where
    next : base + off + length (little k v) ≡ base + (off + k)
    next = omega (arith, length_little k v)

pub found_fields : (fs : List (ℕ × ℕ)) (base off : ℕ) (xs : List ℕ) → Bytes xs → Found fs base off xs → Stands (fields fs) (base + off) xs
unfolding fields
found_fields [] base off xs b f = λ i l. absurd (omega arith)
found_fields ((k, v) ∷ fs) base off xs b f =
    stands_both (little k v) (fields fs) (base + off) xs
    (subst (λ (n : ℕ). Stands (little k n) (base + off) xs) f.0 (number_stands k (base + off) xs b))
    (subst (λ (n : ℕ). Stands (fields fs) n xs) next (found_fields fs base (off + k) xs b f.1))
  where
    next : base + (off + k) ≡ base + off + length (little k v)
    next = omega (arith, length_little k v)

-- each is laid behind those before it
abbrev pub Put : List (ℕ × ℕ) → (off : ℕ) → (old new : List ℕ) → Type 0
Put [] off old new = new ≡ old
Put ((k, v) ∷ fs) off old new = (next : List ℕ) × (next ≡ laid (little k v) off old) × Put fs (off + k) next new

pub put_fields : (fs : List (ℕ × ℕ)) (w xs : List ℕ) (off : ℕ) {old new : List ℕ} → off ≡ length w → old ≡ at_front w xs → Put fs off old new → new ≡ at_front (w ++ fields fs) xs
unfolding fields
put_fields [] w xs off e h p = p ∙ h ∙ ap (λ (t : List ℕ). at_front t xs) (sym (append-nil w))
put_fields ((k, v) ∷ fs) w xs off e h (next, p, ps) =
    put_fields fs (w ++ little k v) xs (off + k) (omega (arith, length-append w (little k v), length_little k v)) (over_then w (little k v) xs off e h p) ps
    ∙ ap (λ (t : List ℕ). at_front t xs) (append_assoc w (little k v) (fields fs))
