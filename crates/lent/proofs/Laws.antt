-- A table with another bound.
-- Assumes nothing.
use mathlib.Core.Path.{◌≡◌, sym}
use mathlib.Core.Logic.{◌≢◌}
use mathlib.Core.List.{List}
use Prim.Native.Nat.{ℕ, ◌+◌, ◌*◌, ◌%◌, ◌<◌}
use native.Mathlib.Omega.{arith}
use lib.ListN.{get_or}
use lib.Seq.{get_or-set_same, get_or-set_other}
use Rattle.rules.specs.Table.{Problem}
use Rattle.states.specs.State.{Search, Spaced}
use Rattle.cells.specs.View.{Sets}
use Rattle.lent.specs.Lent.{wait_of, Listed, Lent}

-- the lists are those of the same problems where all but the bound is the same
pub rebound : {L K : List ℕ} → ((i : ℕ) → i ≢ 852 → get_or K i 0 ≡ get_or L i 0) → (P : Problem) → Listed L P → Listed K P
rebound same P t = record {
  wf = t.wf;
  few = t.few;
  count = rw (same 226 (λ e. omega arith)) t.count;
  opening = rw (same 25 (λ e. omega arith)) t.opening;
  conds = λ b l. rw (same b (λ e. omega arith)) (t.conds b l);
  goals = rw (same 24 (λ e. omega arith)) t.goals;
  adders = λ p l. rw (same (p + 26) (λ e. omega arith)) (t.adders p l);
  killers = λ p l. rw (same (p + 90) (λ e. omega arith)) (t.killers p l);
  steps = λ a l. rw (same (a + 154) (λ e. omega arith)) (t.steps a l);
  clash = λ a b l. rw (same (a + 178) (λ e. omega arith)) (t.clash a b l);
  meets = λ a b l m. rw (same (a + 178) (λ e. omega (arith, t.few))) (t.meets a b l m);
  early = λ c Q v j i. rw (same (j + 202) (λ e. omega (arith, t.few, i.below))) (t.early c Q v j i);
  apart = λ a l. (let x = t.apart a l in record {
    starts = λ c Q v ia b ib o. rw (same (25 * a + b + 228) (λ e. omega (arith, t.few, ib.below))) (x.starts c Q v ia b ib o);
    ends = λ c Q v ia. rw (same (25 * a + 24 + 228) (λ e. omega (arith, t.few))) (x.ends c Q v ia);
  });
  leads = λ a l. rw (same (a + 828) (λ e. omega arith)) (t.leads a l);
  gap = rw (same 227 (λ e. omega arith)) t.gap;
  release = λ j l. rw (same (j + 202) (λ e. omega (arith, t.few))) (t.release j l);
}

-- what the table has of two jobs is their wait
pub wait_of_lem : {L : List ℕ} {P : Search} → Lent L P → (a b : ℕ) → Spaced a b (wait_of L a b) P
wait_of_lem t a b Q v i k o = (t.listed.apart a i.below).starts _ Q v i b k o

module _ {L K : List ℕ} {x : ℕ} (d : Sets L 852 x K) where
  same : (i : ℕ) → i ≢ 852 → get_or K i 0 ≡ get_or L i 0
  same i n = rw d.is (get_or-set_other L 852 i x 0 n)

  pub rebound_to : (P : Problem) → Listed L P → Listed K P
  rebound_to = rebound same

  pub rebound_back : (P : Problem) → Listed K P → Listed L P
  rebound_back = rebound (λ i n. sym (same i n))

  pub rebound_lent : (P : Problem) → Listed L P → x < 65535 → Lent K (record { problem = P; bound = x })
  rebound_lent P t s = record { listed = rebound_to P t; bound = is; short = s }
    where
      y : get_or K 852 0 ≡ x
      y = rw d.is (get_or-set_same L 852 x 0 d.room)

      is : x ≡ get_or K 852 0 % 4294967296
      is = omega (arith, y)
