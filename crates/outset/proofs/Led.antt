-- The jobs that lead others in the table, job by job.
-- Assumes nothing.
use mathlib.Core.Path.{◌≡◌, refl, sym, subst, ◌∙◌}
use mathlib.Core.Logic.{◌≢◌, ⊎_elim}
use mathlib.Core.List.{List}
use Prim.Native.Nat.{ℕ, ◌+◌, ◌%◌, ◌≤◌, ◌<◌, ◌^◌}
use native.Mathlib.Omega.{arith}
use lib.ListN.{get_or}
use lib.Seq.{get_or-set_same, get_or-set_other}
use Rattle.std.specs.Prelude.{Option, Some, None, unwrap_or}
use Rattle.facts.proofs.Bools.{below_suc}
use Rattle.tables.specs.declared.Loaded.{Loaded}
use Rattle.tables.specs.declared.Ask.{Ask}
use Rattle.cells.specs.View.{Sets}
use Rattle.turns.specs.Checked.{Leader, Follower}
use Rattle.outset.specs.Outset.{LeadsPut}

-- the job that was found, or 24
pub led_or : (l : Loaded) (q : Ask) (m : ℕ) {x : ℕ} (r : Option ℕ) → Follower l q m r → x ≡ unwrap_or r 24 → x < 24 → Leader l q m x
led_or l q m None f e h = absurd (omega (arith, e))
led_or l q m (Some n) f e h = rw e f.1

module _ (l : Loaded) (q : Ask) (L : List ℕ) where
  pub leads_none : LeadsPut l q 0 L L
  leads_none = record { leads = λ a h. absurd (omega arith); old = λ i h. refl }

  -- job a leads the lower half of the word y
  abbrev LeadsHalf : (a y : ℕ) → Type 0
  LeadsHalf a y = y % 2 ^ 32 < 24 → Leader l q a (y % 2 ^ 32)

  pub leads_next : {K M : List ℕ} {n x : ℕ} → LeadsPut l q n L K → x ≤ 24 → (x < 24 → Leader l q n x) → Sets K (n + 828) x M → LeadsPut l q (n + 1) L M
  leads_next {K} {M} {n} {x} f m w d = record {
    leads = λ a h. ⊎_elim (λ m. subst (LeadsHalf a) (sym (other (a + 828) (λ e. omega arith))) (f.leads a m))
        (λ m. subst (λ (b : ℕ). LeadsHalf b (get_or M (b + 828) 0)) (sym m) (subst (LeadsHalf n) (sym put) here)) (below_suc a n (omega arith));
    old = λ i h. other i (λ e. omega arith) ∙ f.old i h;
  }
    where
      other : (i : ℕ) → i ≢ n + 828 → get_or M i 0 ≡ get_or K i 0
      other i ne = rw d.is (get_or-set_other K (n + 828) i x 0 ne)

      put : get_or M (n + 828) 0 ≡ x
      put = rw d.is (get_or-set_same K (n + 828) x 0 d.room)

      here : LeadsHalf n x
      here = let e : x % 2 ^ 32 ≡ x = omega (arith, m) in subst (λ (y : ℕ). y < 24 → Leader l q n y) (sym e) w
