-- How long a line is, how lines are put one behind another, and what writing says.
-- Assumes nothing.
use mathlib.Core.Path.{◌≡◌, refl, sym, ap, ap₂, ◌∙◌, subst}
use mathlib.Core.Logic.{◌⊎◌, inl, inr}
use mathlib.Core.Bool.{Bool, not, ◌||◌}
use mathlib.Core.List.{List, [], ◌++◌, append-nil, append_assoc}
use Prim.Native.Nat.{ℕ, zero, suc, ◌+◌, ◌-◌, ◌*◌, ◌/◌, ◌≤◌, ◌<◌}
use native.Mathlib.Omega.{arith}
use borrow.Author.Tests.{eq-eqb, ne_eqb}
use lib.Dec.{T, eqb, ltb}
use lib.ListN.{length, take, drop, length-append, length-take}
use Rattle.facts.proofs.Bools.{or_l, or_r, at_most, or_at}
use Rattle.facts.proofs.Least.{lowest}
use Rattle.refusals.specs.Refusals.{accepted}
use Rattle.refusals.proofs.Refused.{stopped, both}
use Rattle.rules.specs.Table.{Problem}
use Rattle.rules.specs.Plans.{Plan, starts}
use Rattle.rules.specs.Pairs.{joined}
use Rattle.rules.specs.Verdicts.{plan_checks}
use Rattle.rules.proofs.Checked.{Passed}
use Rattle.tables.specs.declared.Loaded.{Loaded}
use Rattle.tables.specs.declared.Ask.{Ask}
use Rattle.tables.specs.declared.Answer.{Answer}
use Rattle.tables.specs.Tables.{problem, answer_of}
use Rattle.tables.specs.Steps.{Judges}
use Rattle.tables.proofs.Laws.{numbered, left_so, changed_so}
use Rattle.tables.proofs.Calls.{accepts_by, goes_behind, call_checks_lem, call_passed}
use Rattle.verdict.specs.Offered.{offered}
use Rattle.verdict.specs.Steps.{Sound}
use Rattle.verdict.proofs.Accepted.{offered_checks}
use Rattle.bytes_le.specs.Little.{at_front}
use Rattle.lines.specs.Lines.{decimal, starting_at}
use Rattle.lines.specs.Letters.{letters}
use Rattle.lines.specs.Lays.{Lays}
use Rattle.lines.proofs.Laws.{lays_none, lays_then, lays_fit, lays_next, text_yes, text_no}
use Rattle.lines.proofs.Fits.{below_10000, below_1000, jobs_fit}
use Rattle.plantext.specs.Form.{letter_at, in_name}
use Rattle.plantext.specs.Names.{name_size, name_of, names_check}
use Rattle.plantext.specs.Writing.{step_line, steps_text, write_verdict, WritesText}
use Rattle.plantext.proofs.Laws.{names_checks}
use Rattle.plantext_write.specs.Steps.{TextGiven, step_at, steps_at, PutsText, NextStart}

-- ── how long a line is ──

-- a name has 16 letters at most
name_fits : (names : List ℕ) (j : ℕ) → length (name_of names j) ≤ 16
unfolding name_of name_size
name_fits names j = omega (arith, length-take (name_size names j) (drop (16 * j) names), (lowest (λ i. not (in_name (letter_at names (16 * j + i)))) 16).within)

-- the part of the table that is lent as the name of job j
pub name_part : (names : List ℕ) (j : ℕ) {n : ℕ} → n ≡ name_size names j → take (16 * j + n - 16 * j) (drop (16 * j) names) ≡ name_of names j
unfolding name_of
name_part names j {n} e = let m : 16 * j + n - 16 * j ≡ name_size names j = omega arith in ap (λ (k : ℕ). take k (drop (16 * j) names)) m

-- the numbers and the name, and 16 letters between and behind them
line_length : (names : List ℕ) (P : Problem) (s : Plan) (j : ℕ) → length (step_line names P s j) ≡ length (decimal (s j)) + length (name_of names j) + length (decimal (P.duration j)) + 16
unfolding step_line
line_length names P s j = simp length-append (omega arith)

-- so a line has 39 letters at most
line_fits : (names : List ℕ) (P : Problem) (s : Plan) (j : ℕ) → s j < 10000 → P.duration j < 1000 → length (step_line names P s j) ≤ 39
line_fits names P s j l m = omega (arith, line_length names P s j, below_10000 (s j) l, name_fits names j, below_1000 (P.duration j) m)

-- and the text of a table that passed the checks 39 a job
steps_fit : (names : List ℕ) (P : Problem) (b : ℕ) (s : Plan) → Passed P → b ≤ 2880 → length (steps_text names P b s) ≤ 39 * P.count
unfolding steps_text
steps_fit names P b s p l = jobs_fit (step_line names P s) s P.count 39 (b + 1) (λ j m n. line_fits names P s j (omega arith) (omega (arith, (p.durations j m).1)))

-- ── one behind another ──

-- one entry more of a list in order, as a loop's counter says it
pub puts_next : (f : ℕ → List ℕ) (k : ℕ) {at to r : ℕ} {xs ys zs : List ℕ} → at ≤ length xs → PutsText (joined f k) at xs ys to → PutsText (f k) to ys zs r → PutsText (joined f (k + 1)) at xs zs r
puts_next f k l p q = lays_fit (lays_next f k l p q) (omega arith)

-- another way to say the same text
pub puts_same : {v w : List ℕ} {at r : ℕ} {xs ys : List ℕ} → v ≡ w → PutsText v at xs ys r → PutsText w at xs ys r
puts_same {at = at} {r} {xs} {ys} e p = subst (λ (t : List ℕ). PutsText t at xs ys r) e p

-- a job that does not start at t has none
pub step_none : (names : List ℕ) (P : Problem) (s : Plan) (t j at : ℕ) (xs : List ℕ) → (s j ≡ t → ⊥) → PutsText (step_at names P s t j) at xs xs at
step_none names P s t j at xs n = rw (text_no (eqb (s j) t) (step_line names P s j) (ne_eqb (s j) t n)) (lays_none at xs)

-- one number has one count of digits
pub digits : {m n : ℕ} → m ≡ n → length (decimal m) ≡ length (decimal n)
digits e = ap (λ (i : ℕ). length (decimal i)) e

module _ (names : List ℕ) (P : Problem) (s : Plan) (t j : ℕ) (at_t : s j ≡ t) where
  -- the line of a job that starts at t
  step_is : step_at names P s t j ≡ step_line names P s j
  step_is = text_yes (eqb (s j) t) (step_line names P s j) (eq-eqb (s j) t at_t)

  -- the room of its parts
  pub step_room : (at room : ℕ) → at + length (step_at names P s t j) ≤ room → at + (length (decimal (s j)) + length (name_of names j) + length (decimal (P.duration j)) + 16) ≤ room
  step_room at room h = omega (arith, ap length step_is, line_length names P s j)

  -- its parts, one behind another
  pub puts_step : {n d at to next last r : ℕ} {xs ys zs ws vs : List ℕ} → n ≡ s j → d ≡ P.duration j → at + length (step_at names P s t j) ≤ length xs
      → length ys ≡ length xs → length zs ≡ length ys
      → PutsText (decimal n ++ letters ".000: (") at xs ys to → PutsText (name_of names j) to ys zs next → Lays 3 (letters ") [") next zs ws last → PutsText (decimal d ++ letters ".000]\n") last ws vs r
      → PutsText (step_at names P s t j) at xs vs r
  unfolding step_line
  puts_step {at = at} {xs = xs} e f h ly lz a b c d =
      let room = step_room at (length xs) h in
      let x = simp length-append at a.next in
      let y = digits e in
      let z = lays_then (omega arith) (rw e at a) (lays_then (omega arith) b (lays_then (omega (arith, b.next)) c (rw f at d))) in
      rw step_is (lays_fit (rw (append_assoc (decimal (s j)) (letters ".000: (")) at z) (omega arith))

-- ── hours in which nothing starts ──

-- no lines of no jobs
starting_none : (line : ℕ → List ℕ) (s : Plan) (n t : ℕ) → ((j : ℕ) → j < n → s j ≡ t → ⊥) → starting_at line s n t ≡ []
unfolding joined
starting_none line s zero t f = refl
starting_none line s (suc n) t f =
    ap₂ (λ (x y : List ℕ). x ++ y) (starting_none line s n t (λ j l. f j (omega arith))) (text_no (eqb (s n) t) (line n) (ne_eqb (s n) t (f n (omega arith))))

-- nothing put behind
joined_skip : (f : ℕ → List ℕ) (a b : ℕ) → a ≤ b → ((i : ℕ) → a ≤ i → i < b → f i ≡ []) → joined f b ≡ joined f a
unfolding joined
joined_skip f a zero l n = let e : a ≡ 0 = omega arith in rw e refl
joined_skip f a (suc b) l n = go (or_at a (suc b) l) (λ m. joined_skip f a b m (λ i x y. n i x (omega arith)))
  where
    go : (a < suc b) ⊎ (a ≡ suc b) → (a ≤ b → joined f b ≡ joined f a) → joined f b ++ f b ≡ joined f a
    go (inr e) r = rw e refl
    go (inl m) r = ap (λ (x : List ℕ). joined f b ++ x) (n b (omega arith) (omega arith)) ∙ append-nil (joined f b) ∙ r (omega arith)

-- so from one start to the next no line comes
pub skips : (names : List ℕ) (P : Problem) (s : Plan) (from till r : ℕ) → NextStart P.count s from till r → joined (steps_at names P s) r ≡ joined (steps_at names P s) from
skips names P s from till r x = joined_skip (steps_at names P s) from r x.later (λ t l m. starting_none (step_line names P s) s P.count t (λ j h e. x.free j h (omega arith) (omega arith)))

-- ── the call ──

-- where memory is too short as `short` says, and t is the verdict on the plan
module _ (l : Loaded) (q : Ask) (names s old : List ℕ) {short : Bool} {t : Answer} (lacks : short ≡ (ltb (length names / 16) q.jobs || ltb (length old / 39) q.jobs))
    (h : Judges (offered short l q s accepted) (Sound short l q s) t) where
  text : List ℕ
  text = steps_text names (problem l q) q.bound (starts s)

  verdict_is : write_verdict l q names s (length old) ≡ offered short l q s (names_check names q.jobs accepted)
  unfolding write_verdict
  verdict_is = ap (λ (b : Bool). offered b l q s (names_check names q.jobs accepted)) (sym lacks)

  -- the plan is refused
  pub writes_no : (t.number ≡ 0 → ⊥) → WritesText l q names s old old t
  unfolding text
  writes_no n =
      let no : (offered short l q s accepted).number ≡ 0 → ⊥ = λ z. n (numbered 0 0 h.says ∙ z) in
      let p = left_so (length text) (at_front text old) old h.says (verdict_is ∙ stopped (offered short l q s) (offered_checks short l q s) no (names_check names q.jobs accepted)) no in
      record { says = p.0; bytes = p.1 }

  module _ (zero : t.number ≡ 0) where
    behind : write_verdict l q names s (length old) ≡ names_check names q.jobs accepted
    behind = verdict_is ∙ goes_behind (offered_checks short l q s) h.says zero (names_check names q.jobs accepted)

    -- names and starts are enough, and the text has its room
    pub enough : TextGiven q names s × (length (steps_text names (problem l q) q.bound (starts s)) ≤ length old) × (length (steps_text names (problem l q) q.bound (starts s)) ≤ 936)
    enough =
        let k = h.order zero in
        let no : T (ltb (length names / 16) q.jobs || ltb (length old / 39) q.jobs) → ⊥ = λ x. k.room (subst T (sym lacks) x) in
        let n = at_most (length names / 16) q.jobs (λ x. no (or_l (ltb (length names / 16) q.jobs) _ x)) in
        let m = at_most (length old / 39) q.jobs (λ x. no (or_r (ltb (length names / 16) q.jobs) _ x)) in
        let few = short || ltb (length s) q.jobs in
        let calls = (both (plan_checks (problem l q) q.bound (starts s) accepted) (call_checks_lem few q.bound l q) (accepts_by (offered_checks short l q s) h.says zero)).0 in
        let f = steps_fit names (problem l q) q.bound (starts s) (call_passed few q.bound l q calls) k.clear.within in
        (((k.clear.few, k.given), omega arith), omega (arith, k.clear.few), omega (arith, k.clear.few))

    module _ {u : Answer} (e : u ≡ answer_of (names_check names q.jobs accepted) 0 0) where
      -- a name is refused
      pub writes_misnamed : (u.number ≡ 0 → ⊥) → WritesText l q names s old old u
      unfolding text
      writes_misnamed n = let p = left_so (length text) (at_front text old) old e behind (λ z. n (numbered 0 0 e ∙ z)) in record { says = p.0; bytes = p.1 }

      -- the text is written
      pub writes_all : {new : List ℕ} {n : ℕ} {r : Answer} → u.number ≡ 0 → PutsText (steps_text names (problem l q) q.bound (starts s)) 0 old new n → r ≡ answer_of accepted n 0
          → WritesText l q names s old new r
      unfolding text
      writes_all {n = n} z y d =
          let size : n ≡ length text = omega (arith, y.next) in
          let p = changed_so (length text) (at_front text old) old (d ∙ ap (λ (i : ℕ). answer_of accepted i 0) size) (behind ∙ accepts_by (names_checks names q.jobs) e z) y.bytes in
          record { says = p.0; bytes = p.1 }
