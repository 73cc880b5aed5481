-- What the steps of the rows rest on.
-- Assumes nothing.
use mathlib.Core.Path.{◌≡◌, sym, subst, ◌∙◌}
use mathlib.Core.Logic.{◌⊎◌, inl, inr}
use mathlib.Core.Bool.{Bool, not, ◌&&◌, ◌||◌}
use mathlib.Core.List.{List}
use Prim.Native.Nat.{ℕ, ◌^◌, ◌≤◌, ◌<◌}
use native.Mathlib.Decide.{dec_lt}
use native.Mathlib.Omega.{arith}
use lib.Bits.{bit_and}
use lib.Dec.{T, eqb, ltb, eqb→eq, lt→ltb, T_not, not_T}
use lib.ListN.{length, get_or, get_or-eq_default}
use Rattle.facts.specs.Facts.{has}
use Rattle.facts.specs.Words.{Word, Decides}
use Rattle.facts.proofs.Bools.{and_l, and_r, and_of, or_cases, or_l, or_r, eqb_of, decides_test}
use Rattle.facts.proofs.Sets.{has_zero, covers_and}
use Rattle.reach.specs.Rows.{in_rows, FitIn, Seen, StayBeside, grown_row, Grown, PairFound, Looked}

-- ── what stays beside a job ──

abbrev covered : ℕ → ℕ → Bool
covered row c = eqb (bit_and row c) c

abbrev seen : (row c d q : ℕ) → Bool
seen row c d q = not (has d q) && (has row q && covered row c)

module _ (rows : List ℕ) (c d : ℕ) (fits : c < 2 ^ 64) where
  seen_at : (q : ℕ) → T (seen (get_or rows q 0) c d q) → Seen (get_or rows q 0) c d q
  seen_at q h =
      let row = get_or rows q 0 in
      let k = and_r (not (has d q)) _ h in
      record { stays = T_not (has d q) (and_l _ _ h); itself = and_l (has row q) _ k; all = (covers_and 64 row c fits).0 (eqb→eq _ _ (and_r (has row q) _ k)) }

  at_seen : (q : ℕ) → Seen (get_or rows q 0) c d q → T (seen (get_or rows q 0) c d q)
  at_seen q s = let row = get_or rows q 0 in and_of (not (has d q)) _ (not_T (has d q) s.stays) (and_of (has row q) _ s.itself (eqb_of ((covers_and 64 row c fits).1 s.all)))

  pub seen_is : (q : ℕ) (b : Bool) → Decides b (Seen (get_or rows q 0) c d q) → b ≡ seen (get_or rows q 0) c d q
  seen_is q b k = decides_test _ k (at_seen q) (seen_at q)

  pub beside_all : (w : ℕ) → Word (λ q. ltb q 64 && seen (get_or rows q 0) c d q) w → StayBeside rows c d 64 w
  beside_all w e = record { sound = λ q h. seen_at q (and_r (ltb q 64) _ (subst T (e q) h)); whole = λ q l y. subst T (sym (e q)) (and_of (ltb q 64) _ (lt→ltb q 64 l) (at_seen q y)) }

-- ── rows that grow ──

pub grown_all : (old new : List ℕ) (a w : ℕ) → length old ≡ 64 → length new ≡ 64 → ((p : ℕ) → p < 64 → Word (grown_row (get_or old p 0) a w p) (get_or new p 0)) → Grown old a w 64 new
grown_all old new a w e f h = record { size = f; grown = h; rest = λ p l. get_or-eq_default new 0 (omega (arith, f)) ∙ sym (get_or-eq_default old 0 (omega (arith, e))) }

-- ── there is no row behind the last ──

module _ (rows : List ℕ) (size : length rows ≡ 64) where
  pub no_row : (p q : ℕ) → 64 ≤ p → T (in_rows rows p q) → ⊥
  no_row p q l h = has_zero q (subst (λ (x : ℕ). T (has x q)) (get_or-eq_default rows 0 (omega (arith, size))) h)

  pub in_range_lem : (p q : ℕ) → T (in_rows rows p q) → p < 64
  in_range_lem p q h = go (dec_lt p 64)
    where
      go : Dec (p < 64) → p < 64
      go (yes l) = l
      go (no l) = absurd (no_row p q (omega arith) h)

-- ── a job is looked at ──

module _ (rows : List ℕ) (c a d : ℕ) (size : length rows ≡ 64) where
  pub looked_not : (FitIn rows c 64 → ⊥) → Looked rows c a d rows
  looked_not n = record { size = size; more = λ p q h. h; sound = λ p q h. inl h; whole = λ p q l f. absurd (n f.fit) }

  pub looked_fit : (w : ℕ) (new : List ℕ) → FitIn rows c 64 → StayBeside rows c d 64 w → Grown rows a w 64 new → Looked rows c a d new
  looked_fit w new fit b g = record { size = g.size; more = up; sound = λ p q h. down p q h (dec_lt p 64); whole = λ p q l f. subst T (sym (g.grown p l q)) (into p q l f.how) }
    where
      up : (p q : ℕ) → T (in_rows rows p q) → T (in_rows new p q)
      up p q h = subst T (sym (g.grown p (in_range_lem rows size p q h) q)) (or_l (has (get_or rows p 0) q || (has a p && (has a q || has w q))) _ (or_l (has (get_or rows p 0) q) _ h))

      found : (p q : ℕ) → (T (has a p) × T (has a q)) ⊎ (T (has a p) × Seen (get_or rows q 0) c d q) ⊎ (T (has a q) × Seen (get_or rows p 0) c d p) → T (in_rows rows p q) ⊎ PairFound rows c a d p q
      found p q h = inr (record { fit = fit; how = h })

      told : (p q : ℕ) → T (has (get_or rows p 0) q || (has a p && (has a q || has w q))) ⊎ T (has w p && has a q) → T (in_rows rows p q) ⊎ PairFound rows c a d p q
      told p q (inr h) = found p q (inr (inr (and_r (has w p) _ h, b.sound p (and_l (has w p) _ h))))
      told p q (inl h) = first (or_cases (has (get_or rows p 0) q) _ h)
        where
          second : T (has a p) → T (has a q) ⊎ T (has w q) → T (in_rows rows p q) ⊎ PairFound rows c a d p q
          second x (inl y) = found p q (inl (x, y))
          second x (inr y) = found p q (inr (inl (x, b.sound q y)))

          first : T (has (get_or rows p 0) q) ⊎ T (has a p && (has a q || has w q)) → T (in_rows rows p q) ⊎ PairFound rows c a d p q
          first (inl y) = inl y
          first (inr y) = second (and_l (has a p) _ y) (or_cases (has a q) _ (and_r (has a p) _ y))

      down : (p q : ℕ) → T (in_rows new p q) → Dec (p < 64) → T (in_rows rows p q) ⊎ PairFound rows c a d p q
      down p q h (yes l) = told p q (or_cases (has (get_or rows p 0) q || (has a p && (has a q || has w q))) _ (subst T (g.grown p l q) h))
      down p q h (no l) = inl (subst (λ (x : ℕ). T (has x q)) (g.rest p (omega arith)) h)

      stays : (q : ℕ) → Seen (get_or rows q 0) c d q → T (has w q)
      stays q y = b.whole q (in_range_lem rows size q q y.itself) y

      into : (p q : ℕ) → p < 64 → (T (has a p) × T (has a q)) ⊎ (T (has a p) × Seen (get_or rows q 0) c d q) ⊎ (T (has a q) × Seen (get_or rows p 0) c d p) → T (grown_row (get_or rows p 0) a w p q)
      into p q l (inl (x, y)) = or_l (has (get_or rows p 0) q || (has a p && (has a q || has w q))) _ (or_r (has (get_or rows p 0) q) _ (and_of (has a p) _ x (or_l (has a q) _ y)))
      into p q l (inr (inl (x, y))) = or_l (has (get_or rows p 0) q || (has a p && (has a q || has w q))) _ (or_r (has (get_or rows p 0) q) _ (and_of (has a p) _ x (or_r (has a q) _ (stays q y))))
      into p q l (inr (inr (x, y))) = or_r (has (get_or rows p 0) q || (has a p && (has a q || has w q))) _ (and_of (has w p) _ (b.whole p l y) x)
