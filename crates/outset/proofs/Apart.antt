-- The waits of the table, job by job.
-- Assumes nothing.
use mathlib.Core.Path.{◌≡◌, refl, sym, subst, ap, ◌∙◌}
use mathlib.Core.Logic.{⊎_elim}
use mathlib.Core.List.{List}
use Prim.Native.Nat.{ℕ, ◌+◌, ◌*◌, ◌%◌, ◌≤◌, ◌<◌, ◌^◌}
use native.Mathlib.Omega.{arith}
use lib.ListN.{get_or}
use lib.Seq.{get_or-set_same, get_or-set_other}
use Rattle.facts.proofs.Bools.{below_suc}
use Rattle.rules.specs.Table.{Problem}
use Rattle.rules.specs.Premises.{InOrder}
use Rattle.entries.specs.Entries.{entry}
use Rattle.cells.specs.View.{Sets}
use Rattle.lent.specs.Lent.{wait_of, Spacing}
use Rattle.outset.specs.Outset.{RowPut, WaitsPut}

module _ (row : List ℕ) (a : ℕ) (L : List ℕ) where
  pub row_none : RowPut row a 0 L L
  row_none = record { new = λ b l. absurd (omega arith); old = λ i l. refl }

  pub row_next : {K M : List ℕ} {n x : ℕ} → RowPut row a n L K → Sets K (25 * a + n + 228) x M → x % 2 ^ 32 ≡ entry row n → RowPut row a (n + 1) L M
  row_next {K} {M} {n} {x} f d e = record {
    new = λ b l. ⊎_elim (λ m. ap (λ (y : ℕ). y % 2 ^ 32) (other (25 * a + b + 228) (λ q. omega arith)) ∙ f.new b m)
        (λ m. subst (λ (c : ℕ). wait_of M a c ≡ entry row c) (sym m) (ap (λ (y : ℕ). y % 2 ^ 32) same ∙ e)) (below_suc b n (omega arith));
    old = λ i l. other i (λ q. omega arith) ∙ f.old i l;
  }
    where
      other : (i : ℕ) → (i ≡ 25 * a + n + 228 → ⊥) → get_or M i 0 ≡ get_or K i 0
      other i ne = rw d.is (get_or-set_other K (25 * a + n + 228) i x 0 ne)

      same : get_or M (25 * a + n + 228) 0 ≡ x
      same = rw d.is (get_or-set_same K (25 * a + n + 228) x 0 d.room)

-- the same waits in another form
apart_as : {P : Problem} {a : ℕ} {x y : ℕ → ℕ} → P.count ≤ 24 → ((b : ℕ) → b ≤ 24 → y b ≡ x b) → Spacing P a x → Spacing P a y
apart_as few e p = record {
  starts = λ bound Q v i b k o. omega (arith, e b (omega (arith, k.below)), p.starts bound Q v i b k o);
  ends = λ bound Q v i. omega (arith, e 24 (omega arith), p.ends bound Q v i);
}

module _ (P : Problem) (few : P.count ≤ 24) (L : List ℕ) where
  pub waits_none : WaitsPut P 0 L L
  waits_none = record { apart = λ ok a l. absurd (omega arith); old = λ i l. refl }

  pub waits_next : {K M row : List ℕ} {n : ℕ} → WaitsPut P n L K → (InOrder P → Spacing P n (entry row)) → RowPut row n 25 K M → WaitsPut P (n + 1) L M
  waits_next {K} {M} {row} {n} f p r = record {
    apart = λ ok a l. ⊎_elim (λ m. apart_as few (λ b h. ap (λ (y : ℕ). y % 2 ^ 32) (r.old (25 * a + b + 228) (omega arith))) (f.apart ok a m))
        (λ m. subst (λ (c : ℕ). Spacing P c (wait_of M c)) (sym m) (apart_as few (λ b h. r.new b (omega arith)) (p ok))) (below_suc a n (omega arith));
    old = λ i l. r.old i (omega arith) ∙ f.old i l;
  }

  -- what is put behind all waits leaves them as they are
  pub waits_old : {K M : List ℕ} {n : ℕ} → n ≤ 24 → WaitsPut P n L K → ((i : ℕ) → i < 828 → get_or M i 0 ≡ get_or K i 0) → WaitsPut P n L M
  waits_old h f e = record {
    apart = λ ok a l. apart_as few (λ b k. ap (λ (y : ℕ). y % 2 ^ 32) (e (25 * a + b + 228) (omega arith))) (f.apart ok a l);
    old = λ i l. e i (omega arith) ∙ f.old i l;
  }
