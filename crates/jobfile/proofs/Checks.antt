-- The bytes that must be zero, and the checks of a reader and of a writer as one list each.
-- Assumes nothing.
use mathlib.Core.Path.{◌≡◌, refl}
use mathlib.Core.Bool.{Bool, true, false, not, cond}
use mathlib.Core.List.{List}
use Prim.Native.Nat.{ℕ, ◌+◌}
use native.Mathlib.Omega.{arith}
use lib.Dec.{T, eqb, ltb, eqb→eq, T_not}
use lib.ListN.{length, get_or}
use Rattle.facts.specs.Least.{any}
use Rattle.facts.proofs.Bools.{same, certain, not_eqb, eqb_not}
use Rattle.facts.proofs.Least.{any_of, any_at}
use Rattle.refusals.specs.Refusals.{Verdict, accepted, refuse_if}
use Rattle.refusals.proofs.Refused.{Checks, if_checks, then_checks}
use Rattle.tables.specs.declared.Loaded.{Loaded}
use Rattle.tables.specs.declared.Ask.{Ask}
use Rattle.tables.specs.declared.Answer.{Answer}
use Rattle.tables.specs.Tables.{answer_of, call_checks}
use Rattle.tables.proofs.Laws.{accepts}
use Rattle.tables.proofs.Calls.{call_checks_lem}
use Rattle.bytes_le.specs.Little.{number}
use Rattle.bytes_le.proofs.Numbers.{zeros_number, number_zeros}
use Rattle.jobfile.specs.Format.{length_after, trailer_at, trailer_in, ask_in, distance_in, too_far, records_in, spoilt, table_in}
use Rattle.jobfile.specs.Calls.{read_checks, whole, nothing, reading, write_checks}

-- a number of k bytes is not 0 exactly where one of them is not
pub any_test : (k : ℕ) (xs : List ℕ) (at : ℕ) → not (eqb (number k xs at) 0) ≡ any (λ j. not (eqb (get_or xs (at + j) 0) 0)) k
any_test k xs at = same _ _ there back
  where
    f : ℕ → Bool
    f j = not (eqb (get_or xs (at + j) 0) 0)

    there : T (not (eqb (number k xs at) 0)) → T (any f k)
    there h = certain (any f k) (λ n. eqb_not (number k xs at) 0 h (zeros_number k xs at (λ i l. eqb→eq (get_or xs (at + i) 0) 0 (certain (eqb (get_or xs (at + i) 0) 0) (λ x. T_not (any f k) n (any_of f k i l x))))))

    back : T (any f k) → T (not (eqb (number k xs at) 0))
    back h = let y = any_at f k h in not_eqb (number k xs at) 0 (λ e. eqb_not (get_or xs (at + y.0) 0) 0 y.2 (number_zeros k xs at e y.0 y.1))

-- the checks of a writer that say 0 accept
pub write_accepts : (l : Loaded) (q : Ask) (used size : ℕ) → (write_checks l q used size).number ≡ 0 → write_checks l q used size ≡ accepted
unfolding write_checks
write_accepts l q used size z = accepts {C = λ v. refuse_if (ltb 65536 n) 1 0 (call_checks (ltb size n) q.bound l q v)} (then_checks (if_checks (ltb 65536 n) 1 0 (omega arith)) (call_checks_lem (ltb size n) q.bound l q)) z
  where
    n : ℕ
    n = length_after used q.jobs

-- ── the reader ──

module _ (file : List ℕ) (room : ℕ) where
  abbrev q : Ask
  q = ask_in (trailer_in file)

  -- its checks, and others behind them
  abbrev pub read_then : Verdict → Verdict
  read_then v =
      refuse_if (ltb 65536 (length file)) 1 0 (refuse_if (ltb (length file) 24) 2 0 (refuse_if (too_far (distance_in (trailer_in file)) q.jobs (trailer_at file)) 2 0
      (refuse_if (any (spoilt (records_in file)) q.jobs) 2 0 (call_checks false q.bound (table_in (records_in file) q.jobs room) q v))))

  pub read_checks_lem : Checks read_then
  read_checks_lem =
      then_checks (if_checks _ 1 0 (omega arith)) (then_checks (if_checks _ 2 0 (omega arith)) (then_checks (if_checks _ 2 0 (omega arith))
      (then_checks (if_checks _ 2 0 (omega arith)) (call_checks_lem false q.bound (table_in (records_in file) q.jobs room) q))))

  -- whatever the checks say, the answer says it
  pub reading_says : (reading file room).answer ≡ answer_of (read_checks file room) 0 0
  reading_says = go (eqb (read_checks file room).number 0)
    where
      a : Answer
      a = answer_of (read_checks file room) 0 0

      go : (b : Bool) → (cond b (whole a q (table_in (records_in file) q.jobs room)) (nothing a)).answer ≡ a
      go true = refl
      go false = refl
