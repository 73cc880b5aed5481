-- From the bytes of the binding pairs to what is settled over them, and from the steps to the promise.
-- Assumes nothing.
use mathlib.Core.Path.{◌≡◌, refl, sym, ap, ◌∙◌, subst}
use mathlib.Core.Logic.{◌↔◌}
use mathlib.Core.Bool.{Bool, cond, ◌&&◌}
use mathlib.Core.List.{List, []}
use Prim.Native.Nat.{ℕ, ◌+◌, ◌*◌, ◌/◌, ◌≤◌, ◌<◌, max}
use native.Mathlib.Omega.{arith}
use lib.Dec.{T, eqb, ltb, ltb→lt, eqb→eq}
use lib.ListN.{length, get_or, get_or-replicate}
use Rattle.facts.specs.Facts.{has}
use Rattle.facts.specs.Least.{any}
use Rattle.facts.proofs.Bools.{and_l, and_r, and_of, eqb_of}
use Rattle.facts.proofs.Least.{any_of, any_at}
use Rattle.rules.specs.Table.{Problem}
use Rattle.rules.specs.Plans.{starts, in_plan}
use Rattle.rules.specs.Pairs.{binds, pair_bytes}
use Rattle.rules.specs.Settling.{Asked, Obeys, Settled}
use Rattle.rules.specs.Lateness.{IsGreatest, SettledFinish, binding_pairs, LatestFinish}
use Rattle.rules.proofs.Named.{binds_at}
use Rattle.rules.proofs.Settle.{AskedAlike, alike_back, obeys_alike}
use Rattle.rules.proofs.Late.{Valued, greatest_next, finish_alike, finish_within, of_one, pairs_of_one, obeys_one, longest_of, keeps_own}
use Rattle.tables.specs.declared.Loaded.{Loaded}
use Rattle.tables.specs.declared.Ask.{Ask}
use Rattle.tables.specs.declared.Action.{Action}
use Rattle.tables.specs.Tables.{unmarked, problem, job_at, no_job, filled, written}
use Rattle.tables.proofs.Lent.{length_filled}
use Rattle.entries.specs.Entries.{entry}
use Rattle.bindings.specs.Bindings.{InBytes, BindsIn}
use Rattle.bindings.specs.Steps.{Appends}
use Rattle.facts.proofs.Passing.{Passing, passing_at}
use Rattle.bindings.proofs.Count.{pairs_room}
use Rattle.bindings.proofs.Listed.{listed}
use Rattle.times.specs.Times.{pair_first, pair_second, wanted}
use Rattle.std.specs.Prelude.{Option, Some, None, IsSome}
use Rattle.times.specs.Steps.{Ready, Solved}
use Rattle.lateness.specs.Steps.{plain, even_table, asked_of, Keepable, Runnable, Listing}

-- what is so of a table and numbers is so of the same
along : (X : Loaded → Ask → Type 0) {m m' : Loaded} {x x' : Ask} → m ≡ m' → x ≡ x' → X m' x' → X m x
along X {m} {m'} {x} {x'} d e h = subst (λ (y : Ask). X m y) (sym e) (subst (λ (n : Loaded). X n x') (sym d) h)

-- one job more is looked at
pub last_next : (test : ℕ → Bool) (f : ℕ → ℕ) (n t : ℕ) {b : Bool} {r : ℕ} → IsGreatest (Valued test f n) t → b ≡ test n → r ≡ cond b (max t (f n)) t → IsGreatest (Valued test f (n + 1)) r
last_next test f n t {b} {r} g e d = subst (IsGreatest (Valued test f (n + 1))) (sym (d ∙ ap (λ (x : Bool). cond x (max t (f n)) t) e)) (greatest_next test f n t g)

-- where some starts keep what is asked, some are worked out
pub solved_kept : (P : Problem) (q : Asked) (r : Option (List ℕ)) → Solved P q r → Keepable P q → IsSome r
solved_kept P q None f (y, k) = absurd (f y k)
solved_kept P q (Some z) f k = refl

pub solved_some : (P : Problem) (q : Asked) {r : Option (List ℕ)} {z : List ℕ} → Solved P q r → r ≡ Some z → Settled P q (entry z)
solved_some P q f e = subst (Solved P q) e f

-- a job of the table whose jobs all take so long
even_at : (d j : ℕ) → j < 24 → job_at (even_table d) j ≡ plain d
even_at d j l = get_or-replicate 24 j (plain d) no_job l

module _ (l : Loaded) (q : Ask) (s bytes : List ℕ) (n set : ℕ) (k : Runnable l q s) (h : Listing l q s bytes n set) where
  abbrev P : Problem
  P = problem l q

  -- the jobs of the set are those of the plan
  in_set : (j : ℕ) → j < q.jobs → T (has set j) ↔ T (in_plan (starts s) j)
  in_set j m = let e = passing_at (in_plan (starts s)) q.jobs set j h.jobs m in (λ x. subst T e x, λ x. subst T (sym e) x)

  -- the pairs asked for are the binding pairs
  in_pairs : (a b : ℕ) → a < q.jobs → b < q.jobs → T (any (λ i. eqb (pair_first bytes i) a && eqb (pair_second bytes i) b) n) ↔ T (binds P (starts s) a b)
  in_pairs a b i j = (there, back)
    where
      test : ℕ → Bool
      test i = eqb (pair_first bytes i) a && eqb (pair_second bytes i) b

      there : T (any test n) → T (binds P (starts s) a b)
      there x =
          let y = any_at test n x in
          ((h.exact a b).0 (y.0, y.1, eqb→eq (pair_first bytes y.0) a (and_l (eqb (pair_first bytes y.0) a) _ y.2), eqb→eq (pair_second bytes y.0) b (and_r (eqb (pair_first bytes y.0) a) _ y.2))).2

      back : T (binds P (starts s) a b) → T (any test n)
      back x = let y = (h.exact a b).1 (i, j, x) in any_of test n y.0 y.1 (and_of (eqb (pair_first bytes y.0) a) _ (eqb_of y.2) (eqb_of y.3))

  is_ready : (atoms : ℕ) → Ready (asked_of q atoms set n) bytes
  is_ready atoms = record {
    few = k.given.0;
    lent = h.lent;
    named = λ j x. ltb→lt j q.jobs (and_l (ltb j q.jobs) _ (subst T (h.jobs j) x));
    paired = λ i m. (
        let y = (h.exact _ _).0 (i, m, refl, refl) in
        let b = binds_at P (starts s) _ _ y.0 y.1 y.2 in
        ((in_set _ y.0).1 b.first.chosen, (in_set _ y.1).1 b.second.chosen)
        );
  }

  own : Obeys P (binding_pairs P q.bound (starts s)) (starts s)
  own = keeps_own P k.order q.bound (starts s) k.valid

  -- what is asked of the table is the binding pairs
  pub as_bound : AskedAlike (problem l (asked_of q q.atoms set n)) P (wanted l (asked_of q q.atoms set n) bytes) (binding_pairs P q.bound (starts s))
  as_bound = record { count = refl; duration = λ j m. refl; gap = refl; set = in_set; pair = in_pairs; from = λ j m. refl; bound = refl }

  -- and of jobs of one quarter hour the same, with no gap and no releases
  as_one : AskedAlike (problem (even_table 1) (asked_of q 1 set n)) (of_one P) (wanted (even_table 1) (asked_of q 1 set n) bytes) (pairs_of_one P q.bound (starts s))
  unfolding unmarked
  as_one = record {
    count = refl;
    duration = λ j m. ap (λ (a : Action). a.duration) (even_at 1 j (omega (arith, k.given.0)));
    gap = refl;
    set = in_set;
    pair = in_pairs;
    from = λ j m. ap (λ (a : Action). a.release) (even_at 1 j (omega (arith, k.given.0)));
    bound = refl;
  }

  -- the plan's own starts keep both
  pub ready_bound : {x : Ask} → x ≡ asked_of q q.atoms set n → Ready x bytes × Keepable (problem l x) (wanted l x bytes)
  ready_bound e = along (λ m x. Ready x bytes × Keepable (problem m x) (wanted m x bytes)) {m = l} refl e
      (is_ready q.atoms, (starts s, obeys_alike _ _ _ _ (alike_back _ _ _ _ as_bound) (starts s) own))

  pub ready_one : {m : Loaded} {x : Ask} → m ≡ even_table 1 → x ≡ asked_of q 1 set n → Ready x bytes × Keepable (problem m x) (wanted m x bytes)
  ready_one d e = along (λ m x. Ready x bytes × Keepable (problem m x) (wanted m x bytes)) d e
      (is_ready 1, (starts s, obeys_alike _ _ _ _ (alike_back _ _ _ _ as_one) (starts s) (obeys_one P k.order (starts s) q.bound (starts s) own)))

  -- neither settled finish is over 2,880
  pub within_bound : (atoms t : ℕ) (m : Loaded) {x : Ask} → x ≡ asked_of q atoms set n → SettledFinish (problem m x) (wanted m x bytes) t → t ≤ 2880
  within_bound atoms t m {x} e f = omega (arith, finish_within (problem m x) (wanted m x bytes) t f, ap (λ (y : Ask). y.bound) e, k.within)

  -- the two settled finishes give the latest finish
  pub latest : (most last jobs : ℕ) {t : ℕ} {x y : Ask} {m : Loaded} → x ≡ asked_of q q.atoms set n → m ≡ even_table 1 → y ≡ asked_of q 1 set n
      → SettledFinish (problem l x) (wanted l x bytes) last → SettledFinish (problem m y) (wanted m y bytes) jobs → t ≡ last + most * jobs → LatestFinish P q.bound (starts s) most t
  latest most last jobs e d c f g h = record {
    last = last;
    settled = finish_alike _ _ _ _ as_bound last (along (λ m x. SettledFinish (problem m x) (wanted m x bytes) last) {m = l} refl (sym e) f);
    jobs = jobs;
    longest = longest_of P k.order (starts s) q.bound jobs (finish_alike _ _ _ _ as_one jobs (along (λ m x. SettledFinish (problem m x) (wanted m x bytes) jobs) (sym d) (sym c) g));
    sum = h;
  }

-- the bytes as they were written, and the word as it was counted
pub listing_by : (l : Loaded) (q : Ask) (s old new : List ℕ) (n set : ℕ) → Runnable l q s → 552 ≤ length old → new ≡ written (pair_bytes (problem l q) (starts s)) old
    → n ≡ length (pair_bytes (problem l q) (starts s)) / 2 → Passing (in_plan (starts s)) q.jobs set → Listing l q s new n set
listing_by l q s old new n set k room b e w =
    let few = pairs_room (problem l q) (starts s) k.order k.given.0 in
    record {
      exact = λ a c. subst (λ (xs : List ℕ). InBytes xs n a c ↔ BindsIn (problem l q) (starts s) a c) (sym b)
          (subst (λ (m : ℕ). InBytes (written (pair_bytes (problem l q) (starts s)) old) m a c ↔ BindsIn (problem l q) (starts s) a c) (sym e) (listed (problem l q) (starts s) old (omega arith) a c));
      lent = rw b (omega (arith, e, few, length_filled (λ i. get_or (pair_bytes (problem l q) (starts s)) i 0) (length (pair_bytes (problem l q) (starts s))) old));
      jobs = w;
    }

pub listing_of : (l : Loaded) (q : Ask) (s old new : List ℕ) (r set : ℕ) → Runnable l q s → 552 ≤ length old → Appends (pair_bytes (problem l q) (starts s)) 0 old new r
    → Passing (in_plan (starts s)) q.jobs set → Listing l q s new (r / 2) set
unfolding filled
listing_of l q s old new r set k room p w = listing_by l q s old new (r / 2) set k room (p.list [] old refl refl) (ap (λ (m : ℕ). m / 2) (omega (arith, p.next))) w
