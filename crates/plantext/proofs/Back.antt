-- Reading what was written gives the plan back.
-- Assumes nothing.
use mathlib.Core.Path.{◌≡◌, refl, sym, ap, ◌∙◌, subst}
use mathlib.Core.Logic.{◌⊎◌, inl, inr}
use mathlib.Core.List.{List}
use Prim.Native.Nat.{ℕ, zero, suc, ◌+◌, ◌*◌, ◌≤◌, ◌<◌}
use native.Mathlib.Nat.{zero-add}
use native.Mathlib.Omega.{arith}
use native.Mathlib.Decide.{ℕ_discrete, dec_lt}
use borrow.Author.Tests.{eq-eqb, ne_eqb}
use lib.Dec.{T, eqb, le→leb}
use lib.ListN.{length, length-append}
use Rattle.facts.proofs.Bools.{below_suc, not_eqb, eqb_not}
use Rattle.refusals.specs.Refusals.{Verdict, accepted}
use Rattle.rules.specs.Table.{Problem}
use Rattle.rules.specs.Plans.{Plan, in_plan}
use Rattle.rules.specs.Pairs.{joined}
use Rattle.bytes_le.proofs.Stands.{Stands, stands_left, stands_right}
use Rattle.lines.specs.Lines.{text_if, starting_at}
use Rattle.lines.proofs.Laws.{text_yes, text_no}
use Rattle.plantext.specs.Form.{letter_at}
use Rattle.plantext.specs.Names.{name_of, names_check}
use Rattle.plantext.specs.Reading.{line_at, line_job, plan_said, text_over, lines_read, text_checks}
use Rattle.plantext.specs.Writing.{step_line, steps_text}
use Rattle.plantext.proofs.Laws.{within_text}
use Rattle.plantext.proofs.Lines.{Good, passes_good, Goes, goes_more, stops_over, said_there, said_else}
use Rattle.plantext.specs.Told.{LineRead}
use Rattle.plantext.proofs.Form.{line_read}
use Rattle.plantext.proofs.Written.{name_text, job_found, step_text, line_starts}

-- each of the texts put one behind another stands where those before it end
stands_joined : (h : ℕ → List ℕ) (n k at : ℕ) (xs : List ℕ) → k < n → Stands (joined h n) at xs → Stands (h k) (at + length (joined h k)) xs
unfolding joined
stands_joined h zero k at xs l x = absurd (omega arith)
stands_joined h (suc n) k at xs l x = go (below_suc k n l) (λ m. stands_joined h n k at xs m (stands_left (joined h n) (h n) at xs x))
  where
    go : (k < n) ⊎ (k ≡ n) → (k < n → Stands (h k) (at + length (joined h k)) xs) → Stands (h k) (at + length (joined h k)) xs
    go (inl m) f = f m
    go (inr e) f = rw e (stands_right (joined h n) (h n) at xs x)

-- one more
joined_long : (h : ℕ → List ℕ) (k : ℕ) → length (joined h (suc k)) ≡ length (joined h k) + length (h k)
unfolding joined
joined_long h k = length-append (joined h k) (h k)

-- a job that starts later than every job in the plan is out
out_late : (s : Plan) (b j : ℕ) → (s j ≤ b → ⊥) → (T (in_plan s j) → s j ≤ b) → s j ≡ 65535
unfolding in_plan
out_late s b j n f = go (ℕ_discrete (s j) 65535)
  where
    go : Dec (s j ≡ 65535) → s j ≡ 65535
    go (yes e) = e
    go (no x) = absurd (n (f (not_eqb (s j) 65535 x)))

-- what of a plan can be written
pub record Writable (P : Problem) (names : List ℕ) (b : ℕ) (s : Plan) : Type 0 where
  pub named : names_check names P.count accepted ≡ accepted
  pub room : 16 * P.count ≤ length names
  pub bound : b ≤ 2880
  pub short : (j : ℕ) → j < P.count → P.duration j < 10000
  pub inside : (j : ℕ) → j < P.count → T (in_plan s j) → s j ≤ b

module _ (P : Problem) (names : List ℕ) (b : ℕ) (s : Plan) (w : Writable P names b s) where
  abbrev text : List ℕ
  text = steps_text names P b s

  abbrev line : ℕ → List ℕ
  line = step_line names P s

  abbrev step : (t j : ℕ) → List ℕ
  step t j = text_if (eqb (s j) t) (line j)

  abbrev moment : ℕ → List ℕ
  moment = starting_at line s P.count

  -- the line of job j stands behind those that come before it
  stands_line : (t j : ℕ) → t ≤ b → j < P.count → s j ≡ t → Stands (line j) (length (joined moment t) + length (joined (step t) j)) text
  unfolding steps_text
  stands_line t j l m e =
      subst (λ (v : List ℕ). Stands v (length (joined moment t) + length (joined (step t) j)) text) (text_yes (eqb (s j) t) (line j) (eq-eqb (s j) t e))
      (stands_joined (step t) P.count j (length (joined moment t)) text m
      (subst (λ (i : ℕ). Stands (moment t) i text) (zero-add (length (joined moment t))) (stands_joined moment (b + 1) t 0 text (omega arith) (λ i h. ap (letter_at text) (zero-add i)))))

  -- the jobs that come before job j at time t are read, the others are not yet
  pub record ReadUpTo (t j at : ℕ) : Type 0 where
    pub k : ℕ
    pub goes : Goes P names text k
    pub place : line_at text k ≡ at
    pub behind : k ≤ at
    pub done : (i : ℕ) → i < P.count → (s i < t) ⊎ ((s i ≡ t) × (i < j)) → plan_said P names text k i ≡ s i
    pub left : (i : ℕ) → i < P.count → ((s i < t) ⊎ ((s i ≡ t) × (i < j)) → ⊥) → plan_said P names text k i ≡ 65535

  -- a job that does not start at t has no line there
  passed_over : (t j at : ℕ) → (s j ≡ t → ⊥) → ReadUpTo t j at → ReadUpTo t (suc j) at
  passed_over t j at n r = record {
    k = r.k;
    goes = r.goes;
    place = r.place;
    behind = r.behind;
    done = λ i l x. r.done i l (back i x);
    left = λ i l x. r.left i l (λ y. x (forth i y));
  }
    where
      back : (i : ℕ) → (s i < t) ⊎ ((s i ≡ t) × (i < suc j)) → (s i < t) ⊎ ((s i ≡ t) × (i < j))
      back i (inl x) = inl x
      back i (inr (e, l)) = inr (e, other (below_suc i j l))
        where
          other : (i < j) ⊎ (i ≡ j) → i < j
          other (inl m) = m
          other (inr h) = absurd (n (ap s (sym h) ∙ e))

      forth : (i : ℕ) → (s i < t) ⊎ ((s i ≡ t) × (i < j)) → (s i < t) ⊎ ((s i ≡ t) × (i < suc j))
      forth i (inl x) = inl x
      forth i (inr (e, l)) = inr (e, omega arith)

  -- a job that starts at t is read from its line
  module _ (t j : ℕ) (l : t ≤ b) (m : j < P.count) (e : s j ≡ t) (r : ReadUpTo t j (length (joined moment t) + length (joined (step t) j))) where
    abbrev k : ℕ
    k = r.k

    abbrev at : ℕ
    at = line_at text k

    small : s j < 10000
    small = omega (arith, w.bound)

    there : Stands (line j) at text
    there = subst (λ (i : ℕ). Stands (line j) i text) (sym r.place) (stands_line t j l m e)

    said : LineRead text at (s j) (name_of names j) (P.duration j) (at + length (line j))
    said = line_read text at (s j) (name_of names j) (P.duration j) (line j) (step_text names P s j (name_text names P.count w.named w.room j m) small (w.short j m)) there

    its_job : line_job P names text k ≡ j
    unfolding line_job
    its_job = job_found names P.count w.named w.room j m text at (s j) (P.duration j) (at + length (line j)) said

    not_yet : (s j < t) ⊎ ((s j ≡ t) × (j < j)) → ⊥
    not_yet (inl x) = omega arith
    not_yet (inr (x, y)) = omega arith

    good : Good P names text k
    unfolding in_plan
    good = record {
      form = said.form;
      early = omega (arith, said.start, w.bound);
      known = omega (arith, its_job);
      fresh = λ x. eqb_not (plan_said P names text k (line_job P names text k)) 65535 x (ap (plan_said P names text k) its_job ∙ r.left j m not_yet);
      lasts = said.duration ∙ ap P.duration (sym its_job);
    }

    inner : at < length text
    inner = within_text text at (λ z. (line_starts names P s j small).1 (sym (there 0 (line_starts names P s j small).0) ∙ ap (letter_at text) (omega arith) ∙ z))

    read_one : ReadUpTo t (suc j) (at + length (line j))
    unfolding line_at
    read_one = record {
      k = suc k;
      goes = goes_more P names text k r.goes inner (omega (arith, r.place, r.behind)) (ap (λ (v : Verdict). v.number) (passes_good P names text k good accepted));
      place = said.next;
      behind = omega (arith, r.place, r.behind, (line_starts names P s j small).0);
      done = λ i h x. to i h x (ℕ_discrete i j);
      left = λ i h x. said_else P names text k i (λ y. x (inr (ap s (y ∙ its_job) ∙ e, omega (arith, its_job)))) ∙ r.left i h (λ y. x (wider i y));
    }
      where
        wider : (i : ℕ) → (s i < t) ⊎ ((s i ≡ t) × (i < j)) → (s i < t) ⊎ ((s i ≡ t) × (i < suc j))
        wider i (inl x) = inl x
        wider i (inr (x, y)) = inr (x, omega arith)

        narrower : (i : ℕ) → (i ≡ j → ⊥) → (s i < t) ⊎ ((s i ≡ t) × (i < suc j)) → (s i < t) ⊎ ((s i ≡ t) × (i < j))
        narrower i n (inl x) = inl x
        narrower i n (inr (x, y)) = inr (x, omega arith)

        to : (i : ℕ) → i < P.count → (s i < t) ⊎ ((s i ≡ t) × (i < suc j)) → Dec (i ≡ j) → plan_said P names text (suc k) i ≡ s i
        to i h x (yes y) = ap (plan_said P names text (suc k)) (y ∙ sym its_job) ∙ said_there P names text k ∙ said.start ∙ ap s (sym y)
        to i h x (no n) = said_else P names text k i (λ y. n (y ∙ its_job)) ∙ r.done i h (narrower i n x)

  -- the jobs that start at t, one by one
  read_moment : (t j : ℕ) → t ≤ b → j ≤ P.count → ReadUpTo t 0 (length (joined moment t)) → ReadUpTo t j (length (joined moment t) + length (joined (step t) j))
  unfolding joined
  read_moment t zero l m r = subst (ReadUpTo t 0) (omega arith) r
  read_moment t (suc j) l m r = go (ℕ_discrete (s j) t) (read_moment t j l (omega arith) r)
    where
      go : Dec (s j ≡ t) → ReadUpTo t j (length (joined moment t) + length (joined (step t) j)) → ReadUpTo t (suc j) (length (joined moment t) + length (joined (step t) (suc j)))
      go (yes e) x =
          subst (ReadUpTo t (suc j)) (omega (arith, x.place, joined_long (step t) j, ap length (text_yes (eqb (s j) t) (line j) (eq-eqb (s j) t e)))) (read_one t j l (omega arith) e x)
      go (no n) x = subst (ReadUpTo t (suc j)) (omega (arith, joined_long (step t) j, ap (length {A = ℕ}) (text_no (eqb (s j) t) (line j) (ne_eqb (s j) t n)))) (passed_over t j _ n x)

  -- moment by moment
  read_moments : (t : ℕ) → t ≤ b + 1 → ReadUpTo t 0 (length (joined moment t))
  unfolding joined line_at plan_said
  read_moments zero l = record {
    k = 0;
    goes = record { within = omega arith; lines = λ i h. absurd (omega arith) };
    place = refl;
    behind = omega arith;
    done = λ i h x. absurd (none i x);
    left = λ i h x. refl;
  }
    where
      none : (i : ℕ) → (s i < 0) ⊎ ((s i ≡ 0) × (i < 0)) → ⊥
      none i (inl x) = omega arith
      none i (inr (x, y)) = omega arith
  read_moments (suc t) l = next (read_moment t P.count (omega arith) (omega arith) (read_moments t (omega arith)))
    where
      next : ReadUpTo t P.count (length (joined moment t) + length (joined (step t) P.count)) → ReadUpTo (suc t) 0 (length (joined moment (suc t)))
      next r = record {
        k = r.k;
        goes = r.goes;
        place = r.place ∙ sym (joined_long moment t);
        behind = omega (arith, r.behind, joined_long moment t);
        done = λ i h x. r.done i h (sooner i h x);
        left = λ i h x. r.left i h (λ y. x (later i y));
      }
        where
          sooner : (i : ℕ) → i < P.count → (s i < suc t) ⊎ ((s i ≡ suc t) × (i < 0)) → (s i < t) ⊎ ((s i ≡ t) × (i < P.count))
          sooner i h (inl x) = split (below_suc (s i) t x)
            where
              split : (s i < t) ⊎ (s i ≡ t) → (s i < t) ⊎ ((s i ≡ t) × (i < P.count))
              split (inl y) = inl y
              split (inr y) = inr (y, h)
          sooner i h (inr (x, y)) = absurd (omega arith)

          later : (i : ℕ) → (s i < t) ⊎ ((s i ≡ t) × (i < P.count)) → (s i < suc t) ⊎ ((s i ≡ suc t) × (i < 0))
          later i (inl x) = inl (omega arith)
          later i (inr (x, y)) = inl (omega arith)

  -- the law: no line of the text is refused, and the lines say the plan
  pub read_back : ((next : Verdict) → text_checks P names text next ≡ next) × ((j : ℕ) → j < P.count → plan_said P names text (lines_read P names text) j ≡ s j)
  unfolding text_over steps_text
  read_back =
      let r = read_moments (b + 1) (omega arith) in
      let o = stops_over P names text r.k r.goes (le→leb (length text) (line_at text r.k) (omega (arith, r.place))) in
      (o.1, λ j l. ap (λ (i : ℕ). plan_said P names text i j) o.0 ∙ told j l r (dec_lt (s j) (b + 1)))
    where
      told : (j : ℕ) → j < P.count → (r : ReadUpTo (b + 1) 0 (length (joined moment (b + 1)))) → Dec (s j < b + 1) → plan_said P names text r.k j ≡ s j
      told j l r (yes x) = r.done j l (inl x)
      told j l r (no x) = r.left j l none ∙ sym (out_late s b j (λ y. x (omega arith)) (w.inside j l))
        where
          none : (s j < b + 1) ⊎ ((s j ≡ b + 1) × (j < 0)) → ⊥
          none (inl y) = x y
          none (inr (y, z)) = omega arith
