-- Request Twelve: for each plan and overruns there is one run, and with overruns up to k all is finished by the settled finish plus k times the longest chain.
-- Assumes nothing.
use mathlib.Core.Path.{◌≡◌, refl, sym, ◌∙◌, ap₂, subst}
use mathlib.Core.Logic.{◌⊎◌, inl, inr, ◌↔◌, ⊎_elim}
use mathlib.Core.Bool.{Bool, cond}
use Prim.Native.Nat.{ℕ, zero, suc, ◌+◌, ◌*◌, ◌≤◌, ◌<◌, max}
use native.Mathlib.Omega.{arith}
use native.Mathlib.Nat.{mul-suc, add-mul, one-mul, mul-le-mul_left, mul-le-mul_right}
use native.Mathlib.Numerals.{add-one}
use native.Mathlib.Decide.{dec_le}
use lib.Dec.{T}
use Rattle.facts.proofs.Bools.{T?, or_at, not_eqb, eqb_not}
use Rattle.rules.specs.Table.{Problem}
use Rattle.rules.specs.Premises.{InOrder, most}
use Rattle.rules.specs.Plans.{Plan, in_plan, In, finish, Valid}
use Rattle.rules.specs.Pairs.{binds}
use Rattle.rules.specs.Settling.{Asked, Obeys, Settled}
use Rattle.rules.specs.Lateness.{IsGreatest, SettledFinish, binding_pairs, BindingChain, lone, longer, LatestFinish}
use Rattle.rules.specs.Runs.{DueAt, Run, FinishedBy, RunsBy}
use Rattle.rules.specs.Sums.{sum}
use Rattle.rules.proofs.Named.{binds_at}
use Rattle.rules.proofs.Retimed.{redo, retimed}
use Rattle.rules.proofs.Sums.{sum_of, most_ge, cond_yes, cond_no, chain_end}
use Rattle.rules.proofs.Settle.{Closed, Tight, AskedAlike, settled_exist, settled_only, settled_alike, settled_tight}

-- ── the greatest of some numbers ──

greatest_under : (Q : ℕ → Type 0) (m n : ℕ) → IsGreatest Q m → IsGreatest Q n → m ≤ n
greatest_under Q m n f g = ⊎_elim (λ e. omega arith) (λ x. g.most m x) f.met

pub greatest_only : (Q : ℕ → Type 0) (m n : ℕ) → IsGreatest Q m → IsGreatest Q n → m ≡ n
greatest_only Q m n f g = omega (arith, greatest_under Q m n f g, greatest_under Q n m g f)

-- of what is so of the same numbers
pub greatest_as : {Q R : ℕ → Type 0} (n : ℕ) → ((m : ℕ) → Q m → R m) → ((m : ℕ) → R m → Q m) → IsGreatest Q n → IsGreatest R n
greatest_as n there back g = record { most = λ m x. g.most m (back m x); met = ⊎_elim inl (λ x. inr (there n x)) g.met }

-- one of the numbers below n that pass the test has the value m
abbrev pub Valued : (test : ℕ → Bool) (f : ℕ → ℕ) (n m : ℕ) → Type 0
Valued test f n m = (j : ℕ) × (j < n) × T (test j) × (f j ≡ m)

-- of values that are the same
greatest_values : (test : ℕ → Bool) (f g : ℕ → ℕ) (n t : ℕ) → ((j : ℕ) → j < n → T (test j) → f j ≡ g j) → IsGreatest (Valued test f n) t → IsGreatest (Valued test g n) t
greatest_values test f g n t h = greatest_as t (λ m (j, l, x, e). (j, l, x, sym (h j l x) ∙ e)) (λ m (j, l, x, e). (j, l, x, h j l x ∙ e))

module _ (test : ℕ → Bool) (f : ℕ → ℕ) where
  pub greatest_none : IsGreatest (Valued test f 0) 0
  greatest_none = record { most = λ m x. absurd (omega (arith, x.1)); met = inl refl }

  -- where a bound holds below n and at n, it holds below n + 1
  values : (n t : ℕ) → ((m : ℕ) → Valued test f n m → m ≤ t) → (T (test n) → f n ≤ t) → (m : ℕ) → Valued test f (n + 1) m → m ≤ t
  values n t below at m (j, l, x, e) = ⊎_elim (λ k. below m (j, k, x, e)) (λ k. omega (arith, here k)) (or_at j n (omega arith))
    where
      here : j ≡ n → m ≤ t
      here k = let a : f n ≤ t = at (subst (λ (i : ℕ). T (test i)) k x) in let b : f n ≡ m = subst (λ (i : ℕ). f i ≡ m) k e in omega arith

  more : (n m : ℕ) → Valued test f n m → Valued test f (n + 1) m
  more n m (j, l, x, e) = (j, omega arith, x, e)

  -- one number more, which does not pass
  greatest_past : (n t : ℕ) → (T (test n) → ⊥) → IsGreatest (Valued test f n) t → IsGreatest (Valued test f (n + 1)) t
  greatest_past n t out g = record { most = values n t g.most (λ x. absurd (out x)); met = ⊎_elim inl (λ x. inr (more n t x)) g.met }

  -- one number more, which passes
  greatest_more : (n t : ℕ) → T (test n) → IsGreatest (Valued test f n) t → IsGreatest (Valued test f (n + 1)) (max t (f n))
  greatest_more n t x g = record {
    most = values n (max t (f n)) (λ m v. omega (arith, g.most m v)) (λ _. omega arith);
    met = pick (dec_le (f n) t);
  }
    where
      pick : Dec (f n ≤ t) → (max t (f n) ≡ 0) ⊎ Valued test f (n + 1) (max t (f n))
      pick (no l) = inr (n, omega arith, x, omega arith)
      pick (yes l) =
          let e : t ≡ max t (f n) = omega arith in
          ⊎_elim (λ z. inl (omega arith)) (λ v. inr (subst (Valued test f (n + 1)) e (more n t v))) g.met

  -- one number more
  pub greatest_next : (n t : ℕ) → IsGreatest (Valued test f n) t → IsGreatest (Valued test f (n + 1)) (cond (test n) (max t (f n)) t)
  greatest_next n t g = ⊎_elim (λ x. rw (cond_yes (test n) (max t (f n)) t x) (greatest_more n t x g)) (λ x. rw (cond_no (test n) (max t (f n)) t x) (greatest_past n t x g)) (T? (test n))

  -- the greatest, worked out
  unfoldable pub greatest_of : ℕ → ℕ
  greatest_of zero = 0
  greatest_of (suc n) = cond (test n) (max (greatest_of n) (f n)) (greatest_of n)

  pub greatest_is : (n : ℕ) → IsGreatest (Valued test f n) (greatest_of n)
  unfolding greatest_of
  greatest_is zero = greatest_none
  greatest_is (suc n) =
      subst (λ (i : ℕ). IsGreatest (Valued test f i) (cond (test n) (max (greatest_of n) (f n)) (greatest_of n))) (add-one n) (greatest_next n (greatest_of n) (greatest_is n))

-- ── the settled finish ──

module _ (P : Problem) (q : Asked) where
  pub finish_only : (t u : ℕ) → SettledFinish P q t → SettledFinish P q u → t ≡ u
  finish_only t u f g = greatest_only _ t u f.last (greatest_values q.set _ _ P.count u (λ j l x. omega (arith, settled_only P q f.z g.z f.settled g.settled j l)) g.last)

  pub finish_of : (z : Plan) → Settled P q z → SettledFinish P q (greatest_of q.set (finish P z) P.count)
  finish_of z f = record { z = z; settled = f; last = greatest_is q.set (finish P z) P.count }

  pub finish_within : (t : ℕ) → SettledFinish P q t → t ≤ q.bound
  finish_within t f = ⊎_elim (λ e. omega arith) (λ (j, l, x, e). omega (arith, f.settled.keeps.ends j l x)) f.last.met

pub finish_alike : (P K : Problem) (q r : Asked) → AskedAlike P K q r → (t : ℕ) → SettledFinish P q t → SettledFinish K r t
finish_alike P K q r h t f = record {
  z = f.z;
  settled = settled_alike P K q r h f.z f.settled;
  last = greatest_as t
      (λ m (j, l, x, e). (j, omega (arith, h.count), (h.set j l).0 x, omega (arith, h.duration j l)))
      (λ m (j, l, x, e). (let i : j < P.count = omega (arith, h.count) in (j, i, (h.set j i).1 x, omega (arith, h.duration j i))))
      f.last;
}

-- ── one run for each overruns ──

-- the jobs as long as they take with the overruns
abbrev pub overrun : Problem → (over : ℕ → ℕ) → Problem
overrun P o = redo P (λ j. P.duration j + o j) P.release P.gap

-- times that stand apart leave room for overruns up to w when each is taken w + 1 times
spread : (x y d g o w : ℕ) → x + d + g ≤ y → 1 ≤ d → o ≤ w → x * suc w + (d + o) + g ≤ y * suc w
spread x y d g o w h l m =
    let up : (x + (d + g)) * suc w ≤ y * suc w = mul-le-mul_right (suc w) (omega arith) in
    let one : 1 * w ≤ (d + g) * w = mul-le-mul_right w (omega arith) in
    omega (arith, add-mul x (d + g) (suc w), mul-suc (d + g) w, one-mul w)

module _ (P : Problem) (ok : InOrder P) (s : Plan) where
  -- what binds a job starts before it
  sooner : (a j : ℕ) → In P s a → In P s j → T (binds P s a j) → s a < s j
  sooner a j i h x = omega (arith, (binds_at P s a j i.below h.below x).order, ok.long a i.below)

  -- binding pairs are of jobs of the plan
  pairs_closed : (K : Problem) (from : ℕ → ℕ) (bound : ℕ) → K.count ≡ P.count → Closed K (record { set = in_plan s; pair = binds P s; from = from; bound = bound })
  pairs_closed K from bound e a b l m x = let h = binds_at P s a b (omega arith) (omega arith) x in (h.first.chosen, h.second.chosen)

  module _ (o : ℕ → ℕ) where
    -- of two runs none starts a job later, by induction along the plan's own starts
    run_under : (y z : Plan) → Run P s o y → Run P s o z → (n j : ℕ) → In P s j → s j < n → y j ≤ z j
    run_under y z f g zero j i l = absurd (omega arith)
    run_under y z f g (suc n) j i l = f.soon j (z j) i (record {
      released = (g.due j i).released;
      behind = λ a h x. omega (arith, run_under y z f g n a h (omega (arith, sooner a j h i x)), (g.due j i).behind a h x);
    })

    pub run_only : (y z : Plan) → Run P s o y → Run P s o z → (j : ℕ) → In P s j → y j ≡ z j
    run_only y z f g j i = omega (arith, run_under y z f g (suc (s j)) j i (omega arith), run_under z y g f (suc (s j)) j i (omega arith))

    -- starts that are settled over the binding pairs, for the jobs as long as they take, are the run
    pub settled_runs : (bound : ℕ) (z : Plan) → Settled (overrun P o) (binding_pairs P bound s) z → Run P s o z
    settled_runs bound z f = record {
      due = λ j i. record {
        released = f.keeps.from j i.below i.chosen;
        behind = λ a h x. omega (arith, f.keeps.order a j h.below i.below x);
      };
      soon = λ j t i d. go j t i d (settled_tight (overrun P o) (binding_pairs P bound s) (pairs_closed (overrun P o) P.release bound refl) z f j i.below i.chosen);
    }
      where
        go : (j t : ℕ) → In P s j → DueAt P s o z j t → (z j ≡ P.release j) ⊎ ((a : ℕ) × (a < P.count) × T (binds P s a j) × (z j ≡ z a + (P.duration a + o a) + P.gap)) → z j ≤ t
        go j t i d (inl e) = omega (arith, d.released)
        go j t i d (inr (a, l, x, e)) = omega (arith, d.behind a (binds_at P s a j l i.below x).first x)

    -- each start times one more than the greatest overrun, from the latest release on, keeps the pairs
    pub run_exists : (z : Plan) × Run P s o z
    run_exists = let z = settled_exist (overrun P o) asked (pairs_closed (overrun P o) P.release top refl) y keeps in (z.0, settled_runs top z.0 z.1)
      where
        w : ℕ
        w = most o P.count

        y : Plan
        y j = most P.release P.count + s j * suc w

        top : ℕ
        top = most (λ j. y j + (P.duration j + o j)) P.count

        asked : Asked
        asked = binding_pairs P top s

        keeps : Obeys (overrun P o) asked y
        keeps = record {
          from = λ j l t. omega (arith, most_ge P.release P.count j l);
          order = λ a b l m x. omega (arith, spread (s a) (s b) (P.duration a) P.gap (o a) w (binds_at P s a b l m x).order (ok.long a l) (most_ge o P.count a l));
          ends = λ j l t. most_ge (λ j. y j + (P.duration j + o j)) P.count j l;
        }

-- ── the longest chain is the settled finish where each job takes one quarter hour, with no gap and no releases ──

-- the same jobs, each of one quarter hour, with no gap and no releases
abbrev pub of_one : Problem → Problem
of_one P = redo P (λ i. 1) (λ i. 0) 0

-- the binding pairs of a plan, asked of these
abbrev pub pairs_of_one : Problem → (bound : ℕ) → Plan → Asked
pairs_of_one P bound s = record { set = in_plan s; pair = binds P s; from = λ j. 0; bound = bound }

pub one_order : (P : Problem) → InOrder P → InOrder (of_one P)
one_order P ok = record { long = λ i l. omega arith; pure = ok.pure; needed = ok.needed; added = ok.added; deleted = ok.deleted; opened = ok.opened; wanted = ok.wanted }

module _ (P : Problem) (ok : InOrder P) (s : Plan) where
  chain_in : {n j : ℕ} → BindingChain P s n j → In P s j
  chain_in (lone i) = i
  chain_in (longer c i x) = i

  -- starts that keep the binding pairs keep them there too
  pub obeys_one : (bound : ℕ) (z : Plan) → Obeys P (binding_pairs P bound s) z → Obeys (of_one P) (pairs_of_one P bound s) z
  obeys_one bound z k = record {
    from = λ j l t. omega arith;
    order = λ a b l m x. omega (arith, k.order a b l m x, ok.long a l);
    ends = λ j l t. omega (arith, k.ends j l t, ok.long j l);
  }

  module _ (bound : ℕ) (z : Plan) (f : Settled (of_one P) (pairs_of_one P bound s) z) where
    tight : Tight (of_one P) (pairs_of_one P bound s) z
    tight = settled_tight (of_one P) (pairs_of_one P bound s) (pairs_closed P ok s (of_one P) (λ j. 0) bound refl) z f

    -- a chain is no longer than its last job has to wait, and one is as long
    chain_under : {n j : ℕ} → BindingChain P s n j → n ≤ suc (z j)
    chain_under (lone i) = omega arith
    chain_under (longer {n = n} {a = a} {j = j} c i x) =
        let r : n ≤ suc (z a) = chain_under c in
        omega (arith, f.keeps.order a j (chain_in c).below i.below x)

    chain_up : (t j : ℕ) → In P s j → z j < t → BindingChain P s (suc (z j)) j
    chain_up zero j i l = absurd (omega arith)
    chain_up (suc t) j i l = go (tight j i.below i.chosen) (λ a h m. chain_up t a h m)
      where
        go : (z j ≡ 0) ⊎ ((a : ℕ) × (a < P.count) × T (binds P s a j) × (z j ≡ z a + 1 + 0)) → ((a : ℕ) → In P s a → z a < t → BindingChain P s (suc (z a)) a) → BindingChain P s (suc (z j)) j
        go (inl e) r = rw e (lone i)
        go (inr (a, m, x, e)) r =
            let w : z j ≡ suc (z a) = omega arith in
            rw w (longer (r a (binds_at P s a j m i.below x).first (omega arith)) i x)

    pub longest_settled : (n : ℕ) → IsGreatest (Valued (in_plan s) (finish (of_one P) z) P.count) n → IsGreatest (λ m. (j : ℕ) × BindingChain P s m j) n
    longest_settled n g = record {
      most = λ m (j, c). omega (arith, chain_under c, g.most (z j + 1) (j, (chain_in c).below, (chain_in c).chosen, refl));
      met = ⊎_elim inl (λ (j, l, x, e). inr (j, subst (λ (m : ℕ). BindingChain P s m j) (omega arith) (chain_up (suc (z j)) j (record { below = l; chosen = x }) (omega arith)))) g.met;
    }

    -- no chain has more jobs than the table
    pub few_jobs : (j : ℕ) → j < P.count → T (in_plan s j) → z j + 1 ≤ P.count
    few_jobs j l x = omega (arith, chain_end P.count (in_plan s) z (λ i. 1) 0 (λ a m. omega arith) behind j l x, sum_of 1 P.count)
      where
        behind : (i : ℕ) → i < P.count → T (in_plan s i) → (z i ≤ 0) ⊎ ((a : ℕ) × (a < P.count) × T (in_plan s a) × (z i ≡ z a + 1))
        behind i m t = ⊎_elim (λ e. inl (omega arith)) (λ (a, n, b, e). inr (a, n, (binds_at P s a i n m b).first.chosen, omega arith)) (tight i m t)

  pub longest_of : (bound n : ℕ) → SettledFinish (of_one P) (pairs_of_one P bound s) n → IsGreatest (λ m. (j : ℕ) × BindingChain P s m j) n
  longest_of bound n f = longest_settled bound f.z f.settled n f.last

  -- starts that keep the binding pairs give settled starts of jobs of one quarter hour, and their finish
  pub one_exists : (bound : ℕ) (z : Plan) → Obeys P (binding_pairs P bound s) z → (n : ℕ) × SettledFinish (of_one P) (pairs_of_one P bound s) n
  one_exists bound z k =
      let w = settled_exist (of_one P) (pairs_of_one P bound s) (pairs_closed P ok s (of_one P) (λ j. 0) bound refl) z (obeys_one bound z k) in
      (greatest_of (in_plan s) (finish (of_one P) w.0) P.count, finish_of (of_one P) (pairs_of_one P bound s) w.0 w.1)

-- ── how late it can get ──

module _ (P : Problem) (ok : InOrder P) (bound : ℕ) (s : Plan) where
  -- a valid plan keeps its own binding pairs
  pub keeps_own : Valid P bound s → Obeys P (binding_pairs P bound s) s
  keeps_own v = record {
    from = λ j l x. v.released j (record { below = l; chosen = x });
    order = λ a b l m x. (binds_at P s a b l m x).order;
    ends = λ j l x. v.inside j (record { below = l; chosen = x });
  }

  -- so it has such a sum
  pub latest_exists : Valid P bound s → (k : ℕ) → (t : ℕ) × LatestFinish P bound s k t
  latest_exists v k =
      let z = settled_exist P (binding_pairs P bound s) (pairs_closed P ok s P P.release bound refl) s (keeps_own v) in
      let c = one_exists P ok s bound s (keeps_own v) in
      (_, record { last = _; settled = finish_of P (binding_pairs P bound s) z.0 z.1; jobs = c.0; longest = longest_of P ok s bound c.0 c.1; sum = refl })

  pub latest_only : (k t u : ℕ) → LatestFinish P bound s k t → LatestFinish P bound s k u → t ≡ u
  latest_only k t u f g =
      f.sum ∙ ap₂ (λ (x y : ℕ). x + k * y) (finish_only P (binding_pairs P bound s) f.last g.last f.settled g.settled) (greatest_only _ f.jobs g.jobs f.longest g.longest) ∙ sym g.sum

  module _ (k t : ℕ) (f : LatestFinish P bound s k t) where
    -- the settled starts of jobs of one quarter hour, and that the longest chain is their finish
    one : SettledFinish (of_one P) (pairs_of_one P bound s) f.jobs
    one =
        let c = one_exists P ok s bound f.settled.z f.settled.settled.keeps in
        subst (SettledFinish (of_one P) (pairs_of_one P bound s)) (greatest_only _ c.0 f.jobs (longest_of P ok s bound c.0 c.1) f.longest) c.1

    module _ (o : ℕ → ℕ) (most : (j : ℕ) → In P s j → o j ≤ k) (r : Plan) (run : Run P s o r) where
      -- a job is no later than settled by k for each job of a chain that ends with it, by induction along the plan's own starts
      late : (n j : ℕ) → In P s j → s j < n → r j ≤ f.settled.z j + k * one.z j
      late zero j i l = absurd (omega arith)
      late (suc n) j i l = run.soon j _ i (record {
        released = omega (arith, f.settled.settled.keeps.from j i.below i.chosen);
        behind = λ a h x. omega (
          arith,
          late n a h (omega (arith, sooner P ok s a j h i x)),
          most a h,
          f.settled.settled.keeps.order a j h.below i.below x,
          mul-suc k (one.z a),
          step a j (one.settled.keeps.order a j h.below i.below x),
        );
      })
        where
          step : (a j : ℕ) → one.z a + 1 + 0 ≤ one.z j → k * suc (one.z a) ≤ k * one.z j
          step a j h = mul-le-mul_left k (omega arith)

      -- with overruns up to k all is finished by then
      pub how_late_lem : FinishedBy P s o r t
      how_late_lem j i =
          let c : k * suc (one.z j) ≤ k * f.jobs = mul-le-mul_left k (omega (arith, one.last.most (one.z j + 1) (j, i.below, i.chosen, refl))) in
          omega (
            arith,
            f.sum,
            late (suc (s j)) j i (omega arith),
            most j i,
            mul-suc k (one.z j),
            f.settled.last.most (finish P f.settled.z j) (j, i.below, i.chosen, refl),
          )

    -- the sum is at most the bound and k for each job of the table
    pub latest_fits : t ≤ bound + k * P.count
    latest_fits =
        let few : f.jobs ≤ P.count = ⊎_elim (λ e. omega arith) (λ (j, l, x, e). omega (arith, few_jobs P ok s bound one.z one.settled j l x)) one.last.met in
        omega (arith, f.sum, finish_within P (binding_pairs P bound s) f.last f.settled, mul-le-mul_left k few)

    -- the empty plan finishes at 0, whatever k is
    pub empty_late : ((j : ℕ) → In P s j → ⊥) → t ≡ 0
    empty_late none =
        let a : f.last ≡ 0 = ⊎_elim (λ e. e) (λ (j, l, x, e). absurd (none j (record { below = l; chosen = x }))) f.settled.last.met in
        let b : f.jobs ≡ 0 = ⊎_elim (λ e. e) (λ (j, c). absurd (none j (chain_in P ok s c))) f.longest.met in
        let e : t ≡ 0 + k * 0 = f.sum ∙ ap₂ (λ (x y : ℕ). x + k * y) a b in
        omega arith

  -- the settled starts are the run with no overrun
  settled_run : (k t : ℕ) (f : LatestFinish P bound s k t) → Run P s (λ j. 0) f.settled.z
  settled_run k t f = settled_runs P ok s (λ j. 0) bound f.settled.z (settled_alike P (overrun P (λ j. 0)) (binding_pairs P bound s) (binding_pairs P bound s) (record {
    count = refl;
    duration = λ j l. omega arith;
    gap = refl;
    set = λ j l. (λ x. x, λ x. x);
    pair = λ a b l m. (λ x. x, λ x. x);
    from = λ j l. refl;
    bound = refl;
  }) f.settled.z f.settled.settled)

  -- so with none the last job finishes just then
  pub not_late : (t : ℕ) → LatestFinish P bound s 0 t → (r : Plan) → Run P s (λ j. 0) r → IsGreatest (λ m. (j : ℕ) × In P s j × (finish P r j ≡ m)) t
  not_late t f r run = subst (IsGreatest _) (omega (arith, f.sum)) (greatest_as f.last
      (λ m (j, l, x, e). (j, record { below = l; chosen = x }, e)) (λ m (j, i, e). (j, i.below, i.chosen, e))
      (greatest_values (in_plan s) (finish P f.settled.z) (finish P r) P.count f.last (λ j l x. omega (arith, run_only P ok s (λ j. 0) r f.settled.z run (settled_run 0 t f) j (record { below = l; chosen = x }))) f.settled.last))

  -- and the sum is no later than the plan's own finish
  pub no_later : Valid P bound s → (t m : ℕ) → LatestFinish P bound s 0 t → ((j : ℕ) → In P s j → finish P s j ≤ m) → t ≤ m
  no_later v t m f own = ⊎_elim (λ e. omega (arith, f.sum)) (λ (j, l, x, e). omega (arith, f.sum, f.settled.settled.least s (keeps_own v) j l x, own j (record { below = l; chosen = x }))) f.settled.last.met

  -- so all of it is shown of the sum
  pub runs_by : (k t : ℕ) → LatestFinish P bound s k t → RunsBy P s k t
  runs_by k t f = record {
    some = run_exists P ok s;
    only = run_only P ok s;
    within = how_late_lem k t f;
    just = λ e. not_late t (subst (λ (n : ℕ). LatestFinish P bound s n t) e f);
    empty = empty_late k t f;
  }

  -- a run is a valid plan for the jobs as long as they took, within the sum
  pub run_valid : Valid P bound s → (k t : ℕ) → t < 65535 → LatestFinish P bound s k t → (o : ℕ → ℕ) → ((j : ℕ) → In P s j → o j ≤ k) → (r : Plan) → Run P s o r
      → Valid (overrun P o) t (λ j. cond (in_plan s j) (r j) 65535)
  unfolding in_plan
  run_valid v k t small f o most r run = retimed P ok (λ j. P.duration j + o j) P.release P.gap (λ i l. omega (arith, ok.long i l)) bound t s y v
      (record { there = there; back = back; kept = λ a b i j x. omega (arith, at a i, at b j, (run.due b j).behind a i x) }) ends (λ i m. omega (arith, at i m, (run.due i m).released))
    where
      y : Plan
      y j = cond (in_plan s j) (r j) 65535

      at : (j : ℕ) → In P s j → y j ≡ r j
      at j i = cond_yes (in_plan s j) (r j) 65535 i.chosen

      ends : (j : ℕ) → In P s j → y j + (P.duration j + o j) ≤ t
      ends j i = omega (arith, at j i, how_late_lem k t f o most r run j i)

      there : (j : ℕ) → In P s j → In (overrun P o) y j
      there j i = record { below = i.below; chosen = not_eqb (y j) 65535 (λ e. omega (arith, ends j i)) }

      back : (j : ℕ) → In (overrun P o) y j → In P s j
      back j i = record { below = i.below; chosen = ⊎_elim (λ x. x) (λ n. absurd (eqb_not (y j) 65535 i.chosen (cond_no (in_plan s j) (r j) 65535 n))) (T? (in_plan s j)) }

-- ── the same jobs and binding pairs ──

-- s and z have the same jobs in, and the same pairs bind
pub record BoundAlike (P : Problem) (s z : Plan) : Type 0 where
  pub jobs : (j : ℕ) → In P s j ↔ In P z j
  pub pairs : (a j : ℕ) → In P s a → In P s j → T (binds P s a j) ↔ T (binds P z a j)

bound_back : (P : Problem) (s z : Plan) → BoundAlike P s z → BoundAlike P z s
bound_back P s z h = record {
  jobs = λ j. ((h.jobs j).1, (h.jobs j).0);
  pairs = λ a j i k. (let x = h.pairs a j ((h.jobs a).1 i) ((h.jobs j).1 k) in (x.1, x.0));
}

chain_alike : (P : Problem) (s z : Plan) → InOrder P → BoundAlike P s z → {n j : ℕ} → BindingChain P s n j → BindingChain P z n j
chain_alike P s z ok h (lone i) = lone ((h.jobs _).0 i)
chain_alike P s z ok h (longer {a = a} {j = j} c i x) = longer (chain_alike P s z ok h c) ((h.jobs j).0 i) ((h.pairs a j (chain_in P ok s c) i).0 x)

due_alike : (P : Problem) (s z : Plan) → BoundAlike P s z → (o : ℕ → ℕ) (r : Plan) (j t : ℕ) → In P s j → DueAt P s o r j t → DueAt P z o r j t
due_alike P s z h o r j t i d = record { released = d.released; behind = λ a k x. (let m = (h.jobs a).1 k in d.behind a m ((h.pairs a j m i).1 x)) }

run_alike : (P : Problem) (s z : Plan) → BoundAlike P s z → (o : ℕ → ℕ) (r : Plan) → Run P s o r → Run P z o r
run_alike P s z h o r f = record {
  due = λ j i. (let k = (h.jobs j).1 i in due_alike P s z h o r j (r j) k (f.due j k));
  soon = λ j t i d. f.soon j t ((h.jobs j).1 i) (due_alike P z s (bound_back P s z h) o r j t i d);
}

-- then they have the same sum, whatever their starts and their bounds
pub same_sum : (P : Problem) (ok : InOrder P) (b c : ℕ) (s z : Plan) → BoundAlike P s z → (k t u : ℕ) → LatestFinish P b s k t → LatestFinish P c z k u → t ≡ u
same_sum P ok b c s z h k t u f g = f.sum ∙ ap₂ (λ (x y : ℕ). x + k * y) last jobs ∙ sym g.sum
  where
    is : (j : ℕ) → In P z j → f.settled.z j ≡ g.settled.z j
    is = run_only P ok z (λ j. 0) f.settled.z g.settled.z (run_alike P s z h (λ j. 0) f.settled.z (settled_run P ok b s k t f)) (settled_run P ok c z k u g)

    last : f.last ≡ g.last
    last = greatest_only (Valued (in_plan z) (finish P g.settled.z) P.count) f.last g.last (greatest_as f.last
        (λ m (j, l, x, e). (let i = (h.jobs j).0 (record { below = l; chosen = x }) in (j, i.below, i.chosen, omega (arith, is j i))))
        (λ m (j, l, x, e). (let i : In P z j = record { below = l; chosen = x } in let o = (h.jobs j).1 i in (j, o.below, o.chosen, omega (arith, is j i))))
        f.settled.last) g.settled.last

    jobs : f.jobs ≡ g.jobs
    jobs = greatest_only _ f.jobs g.jobs (greatest_as f.jobs (λ m (j, d). (j, chain_alike P s z ok h d)) (λ m (j, d). (j, chain_alike P z s ok (bound_back P s z h) d)) f.longest) g.longest
