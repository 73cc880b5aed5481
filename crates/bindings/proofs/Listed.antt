-- Exactly the binding pairs stand in the bytes of the list.
-- Assumes nothing.
use mathlib.Core.Path.{◌≡◌, refl, sym, ◌∙◌, subst}
use mathlib.Core.Logic.{⊎_elim, ◌↔◌}
use mathlib.Core.Bool.{Bool, true, false}
use mathlib.Core.List.{List, [], ◌∷◌, ◌++◌}
use Prim.Native.Nat.{ℕ, zero, suc, ◌+◌, ◌-◌, ◌*◌, ◌/◌, ◌≤◌, ◌<◌}
use native.Mathlib.Omega.{arith}
use native.Mathlib.Decide.{dec_lt}
use lib.Dec.{T}
use lib.ListN.{length, get_or, length-append, get_or-append}
use Rattle.facts.proofs.Bools.{below_suc}
use Rattle.rules.specs.Table.{Problem}
use Rattle.rules.specs.Plans.{Plan}
use Rattle.rules.specs.Pairs.{binds, joined, pair_if, pair_bytes}
use Rattle.tables.proofs.Lent.{filled_at}
use Rattle.tables.specs.Tables.{written}
use Rattle.bindings.specs.Bindings.{InBytes, BindsIn}

-- a, then b, at an even place of the list
record At (ys : List ℕ) (a b : ℕ) : Type 0 where
  i : ℕ
  within : 2 * i + 1 < length ys
  first : get_or ys (2 * i) 0 ≡ a
  second : get_or ys (2 * i + 1) 0 ≡ b

-- the list has whole pairs
abbrev Even : List ℕ → Type 0
Even ys = (k : ℕ) × (length ys ≡ 2 * k)

behind : (ys zs : List ℕ) (i n : ℕ) → n ≡ length ys + i → get_or (ys ++ zs) n 0 ≡ get_or zs i 0
behind [] zs i n e = let k : n ≡ i = omega arith in rw k refl
behind (y ∷ ys) zs i zero e = absurd (omega arith)
behind (y ∷ ys) zs i (suc n) e = behind ys zs i n (omega arith)

at_left : (ys zs : List ℕ) {a b : ℕ} → At ys a b → At (ys ++ zs) a b
at_left ys zs h = record {
  i = h.i;
  within = omega (arith, h.within, length-append ys zs);
  first = get_or-append ys zs 0 (2 * h.i) (omega (arith, h.within)) ∙ h.first;
  second = get_or-append ys zs 0 (2 * h.i + 1) h.within ∙ h.second;
}

at_right : (ys zs : List ℕ) {a b : ℕ} → Even ys → At zs a b → At (ys ++ zs) a b
at_right ys zs (k, e) h = record {
  i = k + h.i;
  within = omega (arith, h.within, length-append ys zs, e);
  first = behind ys zs (2 * h.i) (2 * (k + h.i)) (omega (arith, e)) ∙ h.first;
  second = behind ys zs (2 * h.i + 1) (2 * (k + h.i) + 1) (omega (arith, e)) ∙ h.second;
}

even_in_order : (f : ℕ → List ℕ) (n : ℕ) → ((i : ℕ) → Even (f i)) → Even (joined f n)
unfolding joined
even_in_order f zero h = (0, refl)
even_in_order f (suc k) h =
    let a = even_in_order f k h in
    let b = h k in
    (a.0 + b.0, omega (arith, length-append (joined f k) (f k), a.1, b.1))

at_in_order : (f : ℕ → List ℕ) (n k : ℕ) {a b : ℕ} → ((i : ℕ) → Even (f i)) → k < n → At (f k) a b → At (joined f n) a b
unfolding joined
at_in_order f zero k h l x = absurd (omega arith)
at_in_order f (suc m) k {a} {b} h l x = ⊎_elim
    (λ i. at_left (joined f m) (f m) (at_in_order f m k h i x))
    (λ e. at_right (joined f m) (f m) (even_in_order f m h) (subst (λ (y : ℕ). At (f y) a b) e x))
    (below_suc k m l)

even_pair : (t : Bool) (a b : ℕ) → Even (pair_if t a b)
unfolding pair_if
even_pair true a b = (1, refl)
even_pair false a b = (0, refl)

at_pair : (t : Bool) (a b : ℕ) → T t → At (pair_if t a b) a b
unfolding pair_if
at_pair true a b h = record { i = 0; within = omega arith; first = refl; second = refl }
at_pair false a b h = absurd h

at_pairs : (P : Problem) (s : Plan) (a b : ℕ) → a < P.count → b < P.count → T (binds P s a b) → At (pair_bytes P s) a b
unfolding pair_bytes
at_pairs P s a b l m h = at_in_order (λ a. joined (λ b. pair_if (binds P s a b) a b) P.count) P.count a (λ i. even_in_order (λ b. pair_if (binds P s i b) i b) P.count (λ j. even_pair (binds P s i j) i j)) l
    (at_in_order (λ b. pair_if (binds P s a b) a b) P.count b (λ j. even_pair (binds P s a j) a j) m (at_pair (binds P s a b) a b h))

-- ── and no other ──

-- R is so of each pair of the list
abbrev Each : (ℕ → ℕ → Type 0) → List ℕ → Type 0
Each R ys = (i : ℕ) → 2 * i + 1 < length ys → R (get_or ys (2 * i) 0) (get_or ys (2 * i + 1) 0)

same_pair : (R : ℕ → ℕ → Type 0) {a b c d : ℕ} → a ≡ c → b ≡ d → R c d → R a b
same_pair R {a} {b} {c} {d} e f x = subst (λ (y : ℕ). R y b) (sym e) (subst (λ (y : ℕ). R c y) (sym f) x)

each_append : (R : ℕ → ℕ → Type 0) (ys zs : List ℕ) → Even ys → Each R ys → Each R zs → Each R (ys ++ zs)
each_append R ys zs (k, e) f g i l = go (dec_lt i k)
  where
    go : Dec (i < k) → R (get_or (ys ++ zs) (2 * i) 0) (get_or (ys ++ zs) (2 * i + 1) 0)
    go (yes m) = same_pair R (get_or-append ys zs 0 (2 * i) (omega (arith, e))) (get_or-append ys zs 0 (2 * i + 1) (omega (arith, e))) (f i (omega (arith, e)))
    go (no m) = same_pair R (behind ys zs (2 * (i - k)) (2 * i) (omega (arith, e))) (behind ys zs (2 * (i - k) + 1) (2 * i + 1) (omega (arith, e)))
        (g (i - k) (omega (arith, e, l, length-append ys zs)))

each_in_order : (R : ℕ → ℕ → Type 0) (f : ℕ → List ℕ) (n : ℕ) → ((i : ℕ) → Even (f i)) → ((i : ℕ) → i < n → Each R (f i)) → Each R (joined f n)
unfolding joined
each_in_order R f zero v h i l = absurd (omega arith)
each_in_order R f (suc k) v h i l = each_append R (joined f k) (f k) (even_in_order f k v) (each_in_order R f k v (λ j m. h j (omega arith))) (h k (omega arith)) i l

each_pair : (R : ℕ → ℕ → Type 0) (t : Bool) (a b : ℕ) → (T t → R a b) → Each R (pair_if t a b)
unfolding pair_if
each_pair R true a b h zero l = h tt
each_pair R true a b h (suc i) l = absurd (omega arith)
each_pair R false a b h i l = absurd (omega arith)

each_pairs : (P : Problem) (s : Plan) → Each (BindsIn P s) (pair_bytes P s)
unfolding pair_bytes
each_pairs P s = each_in_order (BindsIn P s) (λ a. joined (λ b. pair_if (binds P s a b) a b) P.count) P.count
    (λ i. even_in_order (λ b. pair_if (binds P s i b) i b) P.count (λ j. even_pair (binds P s i j) i j))
    (λ a l. each_in_order (BindsIn P s) (λ b. pair_if (binds P s a b) a b) P.count (λ j. even_pair (binds P s a j) a j)
    (λ b m. each_pair (BindsIn P s) (binds P s a b) a b (λ t. (l, m, t))))

-- the pairs in the bytes written, if they have room, are the binding pairs
module _ (P : Problem) (s : Plan) (old : List ℕ) (room : length (pair_bytes P s) ≤ length old) (a b : ℕ) where
  at : (i : ℕ) → i < length (pair_bytes P s) → get_or (written (pair_bytes P s) old) i 0 ≡ get_or (pair_bytes P s) i 0
  at i l = filled_at (λ j. get_or (pair_bytes P s) j 0) (length (pair_bytes P s)) old i 0 l (omega arith)

  there : InBytes (written (pair_bytes P s) old) (length (pair_bytes P s) / 2) a b → BindsIn P s a b
  there (i, l, e, f) = same_pair (BindsIn P s) (sym e ∙ at (2 * i) (omega arith)) (sym f ∙ at (2 * i + 1) (omega arith)) (each_pairs P s i (omega arith))

  back : BindsIn P s a b → InBytes (written (pair_bytes P s) old) (length (pair_bytes P s) / 2) a b
  back (l, m, h) =
      let x = at_pairs P s a b l m h in
      (x.i, omega (arith, x.within), at (2 * x.i) (omega (arith, x.within)) ∙ x.first, at (2 * x.i + 1) x.within ∙ x.second)

  pub listed : InBytes (written (pair_bytes P s) old) (length (pair_bytes P s) / 2) a b ↔ BindsIn P s a b
  listed = (there, back)
