-- Useless lists of binding pairs break the promise: the jobs U of 01, with a made-up count and with every pair in plan order.
-- Assumes nothing.
use mathlib.Core.Path.{◌≡◌, refl, sym, ap, ap₂, ◌∙◌}
use mathlib.Core.Logic.{◌≢◌}
use mathlib.Core.Bool.{Bool, false}
use mathlib.Core.List.{List, [], ◌∷◌}
use Prim.Native.Nat.{ℕ, ◌/◌, ◌≤◌}
use native.Mathlib.Omega.{arith}
use borrow.Author.Tests.{le-ltb}
use lib.ListN.{length, get_or, take, replicate}
use lib.Seq.{get_or-take}
use Rattle.facts.specs.Facts.{has, after}
use Rattle.facts.specs.Least.{least, further, any}
use Rattle.refusals.specs.Refusals.{Verdict, accepted, refuse_if, refuse_at, refuse_for}
use Rattle.rules.specs.Table.{between, strays, job_strays, undoes, job_checks, table_checks, bound_check}
use Rattle.rules.specs.Clashes.{spoils, clash_of, interfere}
use Rattle.rules.specs.Plans.{starts, in_plan, ends, after_if, finishes, holds}
use Rattle.rules.specs.Verdicts.{late, early, overlap, clashes, clash_fact, unready, missing, plan_checks}
use Rattle.rules.specs.Supports.{blocks, start_fits, job_fits, name, named}
use Rattle.rules.specs.Pairs.{is_job, feeds, binds, joined, pair_if, pair_bytes}
use Rattle.tables.specs.declared.Action.{Action}
use Rattle.tables.specs.declared.Loaded.{Loaded}
use Rattle.tables.specs.declared.Ask.{Ask}
use Rattle.tables.specs.declared.Answer.{Answer}
use Rattle.tables.specs.Tables.{no_job, unmarked, problem, answer_of, changed, written}
use Rattle.tables.proofs.Lent.{filled_rest}
use Rattle.verdict.specs.Offered.{offered}
use Rattle.bindings.specs.Bindings.{pair_verdict, Pairs}

abbrev action : (conditions additions deletions duration : ℕ) → Action
action c a d t = record { conditions = c; additions = a; deletions = d; duration = t; release = 0 }

-- unpack, drench, warm, wash
abbrev pub jobs_u : Loaded
jobs_u = record { jobs = action 1 2 1 4 ∷ action 2 4 0 2 ∷ action 2 8 0 8 ∷ action 2 16 4 3 ∷ replicate 20 no_job; lent = 4 }

-- five facts, open {0}
abbrev pub ask_u : (goals bound : ℕ) → Ask
ask_u goals bound = record { jobs = 4; atoms = 5; opening = 1; goals = goals; bound = bound; set = 0; pairs = 0 }

-- where memory is long enough and the plan passes, the answer is the count of its pairs xs, and no byte behind them changes
record Counted (xs old new : List ℕ) (r : Answer) : Type 0 where
  count : r.value ≡ length xs / 2
  behind : (i : ℕ) → length xs ≤ i → get_or new i 0 ≡ get_or old i 0

counted : (l : Loaded) (q : Ask) (s xs old new : List ℕ) (r : Answer) → 552 ≤ length old → offered false l q s accepted ≡ accepted
    → pair_bytes (problem l q) (starts s) ≡ xs → Pairs l q s old new r → Counted xs old new r
counted l q s xs old new r m v e h = record {
  count = ap (λ (x : Answer). x.value) (h.says ∙ ap (λ (x : Verdict). answer_of x (length (pair_bytes (problem l q) (starts s)) / 2) 0) w) ∙ ap (λ (ys : List ℕ). length ys / 2) e;
  behind = λ i k. ap (λ (ys : List ℕ). get_or ys i 0) list ∙ filled_rest (λ i. get_or xs i 0) (length xs) old i 0 k;
}
  where
    w : pair_verdict l q s old ≡ accepted
    w = ap (λ (b : Bool). offered b l q s accepted) (le-ltb (length old) 552 m) ∙ v

    list : new ≡ written xs old
    list = h.list ∙ ap₂ (λ (x : Verdict) (ys : List ℕ). changed x (written ys old) old) w e

-- P3: goals {2, 3, 4}, bound 12
abbrev pub plan3 : List ℕ
plan3 = 0 ∷ 7 ∷ 4 ∷ 4 ∷ []

accepts3 : offered false jobs_u (ask_u 28 12) plan3 accepted ≡ accepted
unfolding bound_check table_checks job_checks between strays job_strays undoes plan_checks refuse_at refuse_for refuse_if late early clashes clash_fact overlap unready missing interfere clash_of spoils holds finishes after_if ends in_plan after has any least further unmarked
accepts3 = refl

pairs3 : pair_bytes (problem jobs_u (ask_u 28 12)) (starts plan3) ≡ 0 ∷ 1 ∷ 0 ∷ 2 ∷ 0 ∷ 3 ∷ 3 ∷ 1 ∷ []
unfolding pair_bytes joined pair_if binds feeds is_job named name start_fits job_fits blocks interfere clash_of spoils in_plan has any least further unmarked
pairs3 = refl

-- a made-up count breaks the promise
pub made_up_count : (old new : List ℕ) (r : Answer) → 552 ≤ length old → r.value ≢ 4 → Pairs jobs_u (ask_u 28 12) plan3 old new r → ⊥
made_up_count old new r m n h = n (counted jobs_u (ask_u 28 12) plan3 _ old new r m accepts3 pairs3 h).count

-- goals {2, 3}, bound 14, warm after drench, which binds it by nothing
abbrev pub plan14 : List ℕ
plan14 = 0 ∷ 4 ∷ 6 ∷ 65535 ∷ []

accepts14 : offered false jobs_u (ask_u 12 14) plan14 accepted ≡ accepted
unfolding bound_check table_checks job_checks between strays job_strays undoes plan_checks refuse_at refuse_for refuse_if late early clashes clash_fact overlap unready missing interfere clash_of spoils holds finishes after_if ends in_plan after has any least further unmarked
accepts14 = refl

pairs14 : pair_bytes (problem jobs_u (ask_u 12 14)) (starts plan14) ≡ 0 ∷ 1 ∷ 0 ∷ 2 ∷ []
unfolding pair_bytes joined pair_if binds feeds is_job named name start_fits job_fits blocks interfere clash_of spoils in_plan has any least further unmarked
pairs14 = refl

-- the three pairs of that plan in plan order break the promise, by their count
pub every_pair : (old new : List ℕ) (r : Answer) → 552 ≤ length old → (r.value ≡ 3) × (take 6 new ≡ 0 ∷ 1 ∷ 0 ∷ 2 ∷ 1 ∷ 2 ∷ []) → Pairs jobs_u (ask_u 12 14) plan14 old new r → ⊥
every_pair old new r m n h = omega (arith, n.0, (counted jobs_u (ask_u 12 14) plan14 _ old new r m accepts14 pairs14 h).count)

-- and whatever count is given, by the bytes, unless the third pair stood there before
pub third_pair : (old new : List ℕ) (r : Answer) → 552 ≤ length old → get_or old 4 0 ≢ 1 → take 6 new ≡ 0 ∷ 1 ∷ 0 ∷ 2 ∷ 1 ∷ 2 ∷ [] → Pairs jobs_u (ask_u 12 14) plan14 old new r → ⊥
third_pair old new r m n e h =
    n (sym ((counted jobs_u (ask_u 12 14) plan14 _ old new r m accepts14 pairs14 h).behind 4 (omega arith)) ∙ sym (get_or-take 6 new 4 0 (omega arith))
    ∙ ap (λ (ys : List ℕ). get_or ys 4 0) e)
