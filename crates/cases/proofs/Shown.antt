-- Each kind of claim, from tests that are computed.
-- Assumes nothing.
use mathlib.Core.Path.{◌≡◌, refl, sym, ◌∙◌, ap, subst}
use mathlib.Core.Logic.{◌⊎◌, inl, inr, ◌↔◌}
use mathlib.Core.Bool.{Bool, not, ◌&&◌, ◌||◌, cond}
use mathlib.Core.List.{List}
use Prim.Native.Nat.{ℕ, ◌+◌, ◌*◌, ◌-◌, ◌≤◌, ◌<◌}
use native.Mathlib.Omega.{arith}
use lib.ListN.{length}
use lib.Dec.{T, eqb, ltb, eqb→eq, ltb→lt, T_not}
use lib.Ieee.{Float}
use lib.IntN.{ℤ}
use Rattle.facts.specs.Least.{any}
use Rattle.facts.proofs.Bools.{chosen, unchosen, and_l, and_r, or_cases, certain, at_most}
use Rattle.facts.proofs.Least.{any_of, any_at}
use Rattle.refusals.specs.Refusals.{Verdict, accepted, refused}
use Rattle.rules.specs.Table.{Problem, table_checks, bound_check}
use Rattle.rules.specs.Premises.{InOrder}
use Rattle.rules.specs.Clashes.{interfere}
use Rattle.rules.specs.Plans.{Plan, starts, in_plan, finish, Over, Valid}
use Rattle.rules.specs.Verdicts.{plan_checks}
use Rattle.rules.specs.Estimates.{dearest, Estimates}
use Rattle.rules.specs.declared.Hindrance.{Hindrance}
use Rattle.rules.specs.Settling.{Asked, Settled}
use Rattle.rules.specs.Reasons.{fits_before, Chain, explained, hindrance_of}
use Rattle.rules.specs.Lateness.{binding_pairs, LatestFinish}
use Rattle.rules.specs.Order.{First, LeastBound, NoPlan, Planned, Bounded}
use Rattle.refusals.proofs.Refused.{Checks, then_checks, went_on, stopped, if_pass}
use Rattle.rules.proofs.CheckLists.{table_checks_lem, bound_checks}
use Rattle.rules.proofs.Checked.{in_order}
use Rattle.rules.proofs.Judged.{judged}
use Rattle.rules.proofs.Early.{estimates_only}
use Rattle.rules.proofs.Settle.{Closed, Tight, tight_settled}
use Rattle.rules.proofs.Chained.{fits_pair, fits_start, explained_only}
use Rattle.rules.proofs.Hindered.{hindrance_only}
use Rattle.rules.proofs.Late.{greatest_of, finish_of, of_one, pairs_of_one, one_order, longest_of, latest_only}
use Rattle.rules.proofs.Orders.{wider, planned_only, bounded_only}
use Rattle.tenths.specs.Tenths.{in_range, AreTenths, tenths}
use Rattle.tenths.proofs.Nearest.{tenths_are}
use Rattle.cases.specs.Claims.{table_and_bound, SameStarts, Taken, RefusedWith, Plans, Refuses10, LeastIs, Judged, Touch, HasTenths, EstimatesAre, ExplainedBy, HinderedBy, FinishesAt, SaysStarts, MissesLine}
use Rattle.plantext.specs.Form.{same_letters}
use Rattle.plantext.specs.Reading.{line_at, plan_said, line_checks, text_over}
use Rattle.plantext.proofs.Laws.{same_letters_lem}
use Rattle.plantext.proofs.Lines.{Goes, goes_more, stops_over, stops_bad, line_checks_lem}
use Rattle.cases.proofs.Refute.{hopeless}
use Rattle.cases.proofs.Firsts.{none_before, none, first, below_least}

-- ── checks 4 to 9 and 20 ──

-- what the checks do with nothing behind them they do whatever is behind them
pub takes_ok : {P : Problem} {bound : ℕ} → table_and_bound P bound accepted ≡ accepted → Taken P bound
takes_ok {P} {bound} e = record { goes_on = went_on (table_and_bound P bound) (then_checks (table_checks_lem P) (bound_checks bound)) (ap (λ (v : Verdict). v.number) e) }

pub refuses_ok : {P : Problem} {bound number place : ℕ} → 0 < number → table_and_bound P bound accepted ≡ refused number place → RefusedWith P bound number place
refuses_ok {P} {bound} {number} {place} l e = record { stops = λ next. stopped (table_and_bound P bound) (then_checks (table_checks_lem P) (bound_checks bound)) some next ∙ e }
  where
    some : (table_and_bound P bound accepted).number ≡ 0 → ⊥
    some z = omega (arith, ap (λ (v : Verdict). v.number) e)

-- a table that is taken with some bound passes checks 4 to 8 and 20
table_goes_on : (P : Problem) (bound : ℕ) → table_and_bound P bound accepted ≡ accepted → (next : Verdict) → table_checks P next ≡ next
table_goes_on P bound t = go (table_checks_lem P)
  where
    go : Checks (table_checks P) → (next : Verdict) → table_checks P next ≡ next
    go (inl (v, k, e)) = absurd (k.0 (ap (λ (w : Verdict). w.number) (sym (e _) ∙ t)))
    go (inr e) = e

module _ (P : Problem) (bound : ℕ) (taken : table_and_bound P bound accepted ≡ accepted) where
  -- so the table is in order, and the verdict on a plan says whether it is valid
  ordered : InOrder P
  ordered = in_order P (table_goes_on P bound taken accepted)

  accepts : (s : Plan) → (plan_checks P bound s accepted ≡ accepted) ↔ Valid P bound s
  accepts s = judged P ordered bound s

-- ── the claims: of each what is computed, then what it says ──

pub plans_ok : {P : Problem} {bound : ℕ} {s : Plan} → table_and_bound P bound accepted ≡ accepted → plan_checks P bound s accepted ≡ accepted → T (none_before P bound s) → Plans P bound s
plans_ok {P} {bound} {s} taken e x = record {
  taken = takes_ok taken;
  first = f;
  answer = λ v z a. let r = planned_only P bound v accepted z s a (inl (refl, f)) in (r.0, r.1 r.0);
}
  where
    f : First P bound s
    f = first P (ordered P bound taken) bound s ((accepts P bound taken s).0 e) x

pub none_ok : {P : Problem} {bound : ℕ} → table_and_bound P bound accepted ≡ accepted → T (hopeless P (λ i. bound)) → Refuses10 P bound
none_ok {P} {bound} taken x = record {
  taken = takes_ok taken;
  none = n;
  answer = λ v z. (ten v z, λ e. inr (e, n));
  least = λ v b z. (ten_least v b z, λ h. inr (h.0, (h.1, n)));
}
  where
    n : NoPlan P bound
    n = none P (ordered P bound taken) bound x

    ten : (v : Verdict) (z : Plan) → Planned P bound v z → v ≡ refused 10 0
    ten v z (inl (e, f)) = absurd (n z f.ok)
    ten v z (inr (e, m)) = e

    ten_least : (v : Verdict) (b : ℕ) (z : Plan) → Bounded P bound v b z → (v ≡ refused 10 0) × (b ≡ 65535)
    ten_least v b z (inl (e, l)) = absurd (n z (wider P b bound z l.within l.first.ok))
    ten_least v b z (inr (e, (h, m))) = (e, h)

pub least_ok : {P : Problem} {b : ℕ} {s : Plan} → table_and_bound P b accepted ≡ accepted → plan_checks P b s accepted ≡ accepted → T (none_before P b s) → T (hopeless P (λ i. b - 1)) → LeastIs P b s
unfolding bound_check
least_ok {P} {b} {s} taken e x y = record {
  taken = λ given l. record { goes_on = λ next. table_goes_on P b taken _ ∙ if_pass (ltb 2880 given) 9 0 next (λ h. omega (arith, ltb→lt 2880 given h)) };
  least = l;
  none = n;
  answer = λ given m v c z a. let r = bounded_only P given v accepted c b z s a (inl (refl, l given m)) in (r.0, r.1, r.2 r.0);
}
  where
    n : (given : ℕ) → given < b → NoPlan P given
    n = below_least P (ordered P b taken) b y

    l : (given : ℕ) → b ≤ given → LeastBound P given b s
    l given m = record { within = m; first = (plans_ok taken e x).first; none = λ c z h w. n c h z w }

pub judged_ok : {P : Problem} {bound : ℕ} {s : Plan} {v : Verdict} → table_and_bound P bound accepted ≡ accepted → plan_checks P bound s accepted ≡ v → Judged P bound s v
judged_ok {P} {bound} {s} taken e = record {
  said = (takes_ok taken).goes_on _ ∙ e;
  valid = (λ h. (accepts P bound taken s).0 (e ∙ h), λ w. sym e ∙ (accepts P bound taken s).1 w);
}

pub touch_ok : {P : Problem} {s : Plan} {a b : ℕ} → a < P.count → b < P.count → T (in_plan s a && in_plan s b) → T (interfere P a b) → finish P s a ≡ s b → Touch P s a b
touch_ok {P} {s} {a} {b} l m i c e = record {
  there = (record { below = l; chosen = and_l (in_plan s a) _ i }, record { below = m; chosen = and_r (in_plan s a) _ i });
  clash = c;
  touch = e;
}

pub tenths_ok : {x : Float} {t : ℤ} → T (in_range x) → tenths x ≡ t → HasTenths x t
tenths_ok {x} {t} h e = record { ranged = h; are = subst (AreTenths x) e (tenths_are x) }

-- every number below n passes the test
unfoldable pub all : (ℕ → Bool) → ℕ → Bool
all f n = not (any (λ i. not (f i)) n)

all_of : (f : ℕ → Bool) (n : ℕ) → T (all f n) → (i : ℕ) → i < n → T (f i)
unfolding all
all_of f n t i l = certain (f i) (λ x. T_not (any (λ i. not (f i)) n) t (any_of (λ i. not (f i)) n i l x))

-- the numbers are what the rules make of them, job by job
unfoldable pub solves : Problem → (est : ℕ → ℕ) → Bool
solves P est = all (λ i. eqb (est i) (dearest P est i 64)) P.count

pub estimates_ok : {P : Problem} {est : ℕ → ℕ} → table_and_bound P 0 accepted ≡ accepted → T (solves P est) → EstimatesAre P est
unfolding solves
estimates_ok {P} {est} taken t = record { solved = numbers; only = λ e x i l. estimates_only P (ordered P 0 taken) e est x numbers i l }
  where
    numbers : Estimates P est
    numbers i l = eqb→eq (est i) (dearest P est i 64) (all_of (λ i. eqb (est i) (dearest P est i 64)) P.count t i l)

pub hinders_ok : {P : Problem} {bound : ℕ} {h : Hindrance} (l : List ℕ) → table_and_bound P 0 accepted ≡ accepted → T (solves P (starts l)) → hindrance_of P (starts l) bound ≡ h → HinderedBy P bound h
hinders_ok {P} {bound} l taken t e = record { tells = λ est x. hindrance_only P (ordered P 0 taken) est (starts l) x (estimates_ok taken t).solved bound ∙ e }

-- ── settled starts ──

-- job j ends by the bound, from its release on, at it or right behind the first job of a pair
unfoldable pub stands : Problem → Asked → Plan → ℕ → Bool
stands P q z j = (eqb (z j) (q.from j) || any (λ a. fits_before P q z a j) P.count) && (not (ltb (z j) (q.from j)) && not (ltb q.bound (finish P z j)))

-- no pair of jobs a and b names a job outside the set or is broken
unfoldable pub keeps : Problem → Asked → Plan → (a b : ℕ) → Bool
keeps P q z a b = not (q.pair a b) || ((q.set a && q.set b) && not (ltb (z b) (finish P z a + P.gap)))

-- the jobs of the set stand so, the others are out, and all pairs are kept
unfoldable pub settles : Problem → Asked → Plan → Bool
settles P q z = all (λ j. cond (q.set j) (stands P q z j) (eqb (z j) 65535)) P.count && all (λ b. all (λ a. keeps P q z a b) P.count) P.count

module _ (P : Problem) (q : Asked) (z : Plan) (t : T (settles P q z)) where
  job_ok : (j : ℕ) → j < P.count → T (cond (q.set j) (stands P q z j) (eqb (z j) 65535))
  unfolding settles
  job_ok = all_of (λ j. cond (q.set j) (stands P q z j) (eqb (z j) 65535)) P.count (and_l (all (λ j. cond (q.set j) (stands P q z j) (eqb (z j) 65535)) P.count) _ t)

  standing : (j : ℕ) → j < P.count → T (q.set j) → T (stands P q z j)
  standing j l s = subst T (chosen (q.set j) (stands P q z j) (eqb (z j) 65535) s) (job_ok j l)

  kept : (a b : ℕ) → a < P.count → b < P.count → T (q.pair a b) → T (q.set a && q.set b) × Over P z a b
  unfolding settles keeps
  kept a b l m p = go (or_cases (not (q.pair a b)) _ (all_of (λ a. keeps P q z a b) P.count (all_of (λ b. all (λ a. keeps P q z a b) P.count) P.count (and_r (all (λ j. cond (q.set j) (stands P q z j) (eqb (z j) 65535)) P.count) _ t) b m) a l))
    where
      go : T (not (q.pair a b)) ⊎ T ((q.set a && q.set b) && not (ltb (z b) (finish P z a + P.gap))) → T (q.set a && q.set b) × Over P z a b
      go (inl n) = absurd (T_not (q.pair a b) n p)
      go (inr x) = (and_l (q.set a && q.set b) _ x, at_most (z b) (finish P z a + P.gap) (T_not (ltb (z b) (finish P z a + P.gap)) (and_r (q.set a && q.set b) _ x)))

  closed : Closed P q
  closed a b l m p = let k = (kept a b l m p).0 in (and_l (q.set a) _ k, and_r (q.set a) _ k)

  tight : Tight P q z
  unfolding stands
  tight j l s = go (or_cases (eqb (z j) (q.from j)) _ (and_l (eqb (z j) (q.from j) || any (λ a. fits_before P q z a j) P.count) _ (standing j l s)))
    where
      go : T (eqb (z j) (q.from j)) ⊎ T (any (λ a. fits_before P q z a j) P.count) → (z j ≡ q.from j) ⊎ ((a : ℕ) × (a < P.count) × T (q.pair a j) × (z j ≡ finish P z a + P.gap))
      go (inl e) = inl (eqb→eq (z j) (q.from j) e)
      go (inr x) = let h = any_at (λ a. fits_before P q z a j) P.count x in inr (h.0, h.1, fits_pair P q z h.0 j h.2, fits_start P q z h.0 j h.2)

  in_time : (j : ℕ) → j < P.count → T (q.set j) → (q.from j ≤ z j) × (finish P z j ≤ q.bound)
  unfolding stands
  in_time j l s =
      let x = and_r (eqb (z j) (q.from j) || any (λ a. fits_before P q z a j) P.count) _ (standing j l s) in
      (at_most (z j) (q.from j) (T_not (ltb (z j) (q.from j)) (and_l (not (ltb (z j) (q.from j))) _ x)), at_most q.bound (finish P z j) (T_not (ltb q.bound (finish P z j)) (and_r (not (ltb (z j) (q.from j))) _ x)))

  settled_ok : InOrder P → Settled P q z
  settled_ok ok = tight_settled P ok q closed z tight (record { from = λ j l s. (in_time j l s).0; order = λ a b l m p. (kept a b l m p).1; ends = λ j l s. (in_time j l s).1 })
      (λ j l n. eqb→eq (z j) 65535 (subst T (unchosen (q.set j) (stands P q z j) (eqb (z j) 65535) n) (job_ok j l)))

pub explains_ok : {P : Problem} {q : Asked} {j : ℕ} {z : Plan} {l : List ℕ} → table_and_bound P 0 accepted ≡ accepted → T (settles P q z) → j < P.count → T (q.set j) → Chain P q z j l → ExplainedBy P q j z l
explains_ok {P} {q} {j} {z} {l} taken t m s c = record {
  settled = f;
  chain = c;
  answer = λ v k x. (let r = explained_only P q j (λ _. m) (explained f s c) x in (sym r.0, sym (r.1 refl)));
}
  where
    f : Settled P q z
    f = settled_ok P q z t (ordered P 0 taken)

-- ── the latest finish ──

-- by the settled starts z, and w of jobs of one quarter hour each
pub finishes_ok : {P : Problem} {bound k t : ℕ} {s : Plan} (z w : Plan) → table_and_bound P bound accepted ≡ accepted → plan_checks P bound s accepted ≡ accepted
    → T (settles P (binding_pairs P bound s) z) → T (settles (of_one P) (pairs_of_one P bound s) w)
    → t ≡ greatest_of (in_plan s) (finish P z) P.count + k * greatest_of (in_plan s) (finish (of_one P) w) P.count → FinishesAt P bound s k t
finishes_ok {P} {bound} {k} {t} {s} z w taken e x y h = record { valid = (accepts P bound taken s).0 e; latest = f; only = λ u g. latest_only P ok bound s k u t g f }
  where
    ok : InOrder P
    ok = ordered P bound taken

    f : LatestFinish P bound s k t
    f = record {
      last = _;
      settled = finish_of P (binding_pairs P bound s) z (settled_ok P (binding_pairs P bound s) z x ok);
      jobs = _;
      longest = longest_of P ok s bound _ (finish_of (of_one P) (pairs_of_one P bound s) w (settled_ok (of_one P) (pairs_of_one P bound s) w y (one_order P ok)));
      sum = h;
    }

-- ── texts: the line at place 0 is looked at, and where it ends ──

module _ {P : Problem} {names text : List ℕ} where
  -- reading stops behind k good lines, and the starts are looked at one by one
  says_lines : {s : Plan} (k : ℕ) → Goes P names text k → T (text_over text k) → T (same_letters (plan_said P names text k) s P.count) → SaysStarts P names text s
  says_lines {s} k g o h = let e = stops_over P names text k g o in record {
    good = e.1;
    said = subst (λ (i : ℕ). SameStarts P (plan_said P names text i) s) (sym e.0) (same_letters_lem (plan_said P names text k) s P.count h);
  }

  none_goes : Goes P names text 0
  none_goes = record { within = omega arith; lines = λ i l. absurd (omega arith) }

  pub says_none : {s : Plan} → T (text_over text 0) → T (same_letters (plan_said P names text 0) s P.count) → SaysStarts P names text s
  says_none o h = says_lines 0 none_goes o h

  pub says_one : {s : Plan} → line_at text 0 < length text → (line_checks P names text 0 accepted).number ≡ 0 → T (text_over text 1) → T (same_letters (plan_said P names text 1) s P.count) → SaysStarts P names text s
  says_one l z o h = says_lines 1 (goes_more P names text 0 none_goes l (omega arith) z) o h

  pub misses_first : {number : ℕ} → 0 < number → (T (text_over text 0) → ⊥) → line_checks P names text 0 accepted ≡ refused number 0 → MissesLine P names text number 0
  misses_first m n e =
      let some : (line_checks P names text 0 accepted).number ≡ 0 → ⊥ = λ z. omega (arith, ap (λ (v : Verdict). v.number) e) in
      record { refuses = λ next. stops_bad P names text 0 none_goes n some next ∙ stopped (line_checks P names text 0) (line_checks_lem P names text 0) some next ∙ e }
