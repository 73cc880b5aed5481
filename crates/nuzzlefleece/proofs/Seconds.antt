-- Of all refusals 12 alone has a second number, in every call; a success has none.
-- Assumes nothing.
use mathlib.Core.Path.{◌≡◌, refl, sym, ap, subst, ◌∙◌}
use mathlib.Core.Logic.{inl, inr, ◌≢◌}
use mathlib.Core.Bool.{Bool, false, not, ◌||◌}
use mathlib.Core.List.{List}
use Prim.Native.Nat.{ℕ, ◌+◌, ◌*◌, ◌/◌}
use native.Mathlib.Omega.{arith}
use native.Mathlib.Decide.{ℕ_discrete}
use lib.Dec.{leb, ltb}
use lib.ListN.{length, take}
use Rattle.facts.specs.Least.{any}
use Rattle.refusals.specs.Refusals.{Verdict, accepted, refuse_at, Ruled}
use Rattle.refusals.proofs.Refused.{Second, Checks, at_checks, if_second, seconds, went_on, stopped}
use Rattle.rules.specs.Plans.{starts}
use Rattle.rules.specs.Pairs.{pair_bytes}
use Rattle.tables.specs.declared.Loaded.{Loaded}
use Rattle.tables.specs.declared.Ask.{Ask}
use Rattle.tables.specs.declared.Action.{Action}
use Rattle.tables.specs.declared.Answer.{Answer}
use Rattle.tables.specs.Tables.{problem, answer_of, Fills, call_checks}
use Rattle.tables.proofs.Laws.{accepts}
use Rattle.tables.proofs.Calls.{call_checks_lem}
use Rattle.verdict.specs.Offered.{offered, ChecksPlan}
use Rattle.verdict.proofs.Accepted.{offered_checks}
use Rattle.bindings.specs.Bindings.{Supports, Pairs}
use Rattle.rules.proofs.Answering.{no_second}
use Rattle.following.specs.declared.Watch.{Watch}
use Rattle.following.specs.declared.Screen.{Screen}
use Rattle.following.specs.Screens.{Following}
use Rattle.lateness.specs.declared.Overruns.{Overruns}
use Rattle.lateness.specs.Lateness.{late_verdict, HowLate}
use Rattle.lateness.proofs.Only.{late_checks}
use Rattle.batches.specs.declared.BatchAnswer.{BatchAnswer}
use Rattle.batches.specs.Batches.{batch_checks, Batches}
use Rattle.batches.proofs.Only.{checks_second}
use Rattle.estimates.specs.Earliest.{Earliest}
use Rattle.settle.specs.Settle.{settling_checks, Settling}
use Rattle.settle.proofs.Faults.{all_checks}
use Rattle.rules.specs.declared.Hindrance.{Hindrance}
use Rattle.rules.specs.declared.Hindrance.TheVariants.{Never, TooDear, Neither}
use Rattle.rules.specs.Table.{Problem, table_checks}
use Rattle.rules.proofs.CheckLists.{table_checks_lem}
use Rattle.rules.specs.Settling.{Asked}
use Rattle.rules.specs.Reasons.{Explained, unsettled, outside, explained, hindrance_of}
use Rattle.reasons.specs.declared.Question.{Question}
use Rattle.reasons.specs.declared.Reason.{Reason}
use Rattle.reasons.specs.Reasons.{WhyStart, reason_of, reason_verdict, WhyNoPlan}
use Rattle.planning.specs.Planning.{PlansWithin, BoundsWithin}
use Rattle.opentable.specs.declared.OpenTable.{OpenTable}
use Rattle.opentable.specs.declared.Replacement.{Replacement}
use Rattle.opentable.specs.Open.{present, empty_of, enlarged, exchanged, open_checks, edit_checks, beginning, adding, replacing, removing, Leaves}
use Rattle.tenths.specs.Tenths.{in_range}
use Rattle.readings.specs.declared.BenchReading.{BenchReading}
use Rattle.readings.specs.declared.Opening.{Opening}
use Rattle.readings.specs.Marks.{Marks, bad}
use Rattle.readings.specs.Opening.{mark_checks, opening_checks, Opens}
use Rattle.jobfile.specs.Format.{length_after, save_length, trailer_in, ask_in, records_in, spoilt, table_in}
use Rattle.jobfile.specs.Calls.{record_checks, save_checks, read_checks, write_checks, Writes}
use Rattle.plantext.specs.Names.{names_check}
use Rattle.plantext.specs.Reading.{read_verdict, ReadsText}
use Rattle.plantext.specs.Writing.{write_verdict, WritesText}
use Rattle.plantext.proofs.Laws.{names_checks}
use Rattle.plantext.proofs.Lines.{text_second}
use Rattle.jobfile.specs.Tidy.{tidy_checks, Tidies}
use Rattle.page.specs.Page.{room_check, Pages}
use Rattle.nuzzlefleece.specs.declared.ReadAnswer.{ReadAnswer}
use Rattle.nuzzlefleece.specs.Files.{Reads}
use Rattle.jobfile.proofs.Checks.{reading_says}

-- the answer has a second number only if it is 12
abbrev pub Told12 : Answer → Type 0
Told12 r = r.number ≢ 12 → r.second ≡ 0

-- success has none
none : Second accepted
none z = refl

-- the answer that says a verdict
answered : (v : Verdict) (yea nay : ℕ) {r : Answer} → Second v → r ≡ answer_of v yea nay → Told12 r
answered v yea nay h e = subst Told12 (sym e) h

-- what is said behind the checks, success or one number
ruled : {A N : Type 0} (n : ℕ) (v : Verdict) → Ruled v A n N → Second v
ruled n v (inl (e, a)) = subst Second (sym e) none
ruled n v (inr (e, k)) = subst Second (sym e) (λ z. refl)

-- what is said behind checks, where it has none
behind : {C : Verdict → Verdict} (k : Checks C) (v : Verdict) → (C accepted ≡ accepted → Second v) → Second (C v)
behind {C} k v f = go (ℕ_discrete (C accepted).number 0)
  where
    go : Dec ((C accepted).number ≡ 0) → Second (C v)
    go (yes z) = seconds C k v (f (went_on C k z accepted))
    go (no z) = subst Second (sym (stopped C k z v)) (seconds C k accepted none)

-- a call that fills lent memory
filling : {C : Verdict → Verdict} (k : Checks C) {A : Verdict → ℕ → (ℕ → ℕ) → Type 0} {nay n : ℕ} {old new : List ℕ} {r : Answer}
    → ((v : Verdict) (value : ℕ) (s : ℕ → ℕ) → A v value s → Second v) → Fills C A nay n old new r → Told12 r
filling {C} k {A} {nay} f x = answered (C x.v) x.value nay (behind k x.v (λ e. f x.v x.value x.s (x.behind e))) x.says

module _ (l : Loaded) (q : Ask) (r : Answer) where
  -- an answer that judges an offered plan
  judging : (short : Bool) (s : List ℕ) (yea : ℕ) → r ≡ answer_of (offered short l q s accepted) yea 0 → Told12 r
  judging short s yea e = answered (offered short l q s accepted) yea 0 (seconds (offered short l q s) (offered_checks short l q s) accepted none) e

  pub check_plan_second : (s : List ℕ) → ChecksPlan l q s r → Told12 r
  check_plan_second s e = judging false s 0 e

  module _ (old new : List ℕ) where
    pub supports_second : (s : List ℕ) → Supports l q s old new r → Told12 r
    supports_second s x = judging (ltb (length old) (64 * (q.jobs + 1))) s 0 x.says

    pub binding_pairs_second : (s : List ℕ) → Pairs l q s old new r → Told12 r
    binding_pairs_second s x = judging (ltb (length old) 552) s (length (pair_bytes (problem l q) (starts s)) / 2) x.says

    few : Bool
    few = ltb (length old) q.jobs

    pub plan_within_second : PlansWithin l q old new r → Told12 r
    unfolding few
    plan_within_second = filling (call_checks_lem few q.bound l q) (λ v value s a. ruled 10 v a.1)

    pub least_bound_second : BoundsWithin l q old new r → Told12 r
    unfolding few
    least_bound_second = filling (call_checks_lem few q.bound l q) (λ v value s a. ruled 10 v a)

    pub earliest_second : Earliest l q old new r → Told12 r
    unfolding few
    earliest_second = filling (call_checks_lem few 0 l q) (λ v value s a. subst Second (sym a.0) none)

    pub settle_second : (bytes : List ℕ) → Settling l q bytes old new r → Told12 r
    settle_second bytes = filling (all_checks l q bytes (length old)) (λ v value s a. ruled 16 v a.1)

    pub read_text_second : (names text : List ℕ) → ReadsText l q names text old new r → Told12 r
    unfolding read_verdict few
    read_text_second names text x =
        let lent = few || ltb (length names / 16) q.jobs in
        answered (read_verdict l q names text (length old)) 0 0
        (seconds (call_checks lent 0 l q) (call_checks_lem lent 0 l q) _ (seconds (names_check names q.jobs) (names_checks names q.jobs) _ (text_second (problem l q) names text)))
        x.says

    pub write_text_second : (names s : List ℕ) → WritesText l q names s old new r → Told12 r
    unfolding write_verdict
    write_text_second names s x =
        let lent = ltb (length names / 16) q.jobs || ltb (length old / 39) q.jobs in
        answered (write_verdict l q names s (length old)) _ 0 (seconds (offered lent l q s) (offered_checks lent l q s) _ (seconds (names_check names q.jobs) (names_checks names q.jobs) accepted none)) x.says

    pub write_file_second : (used : ℕ) → Writes l q used old new r → Told12 r
    unfolding write_checks
    write_file_second used x = answered (write_checks l q used (length old)) (length_after used q.jobs) 0 told x.says
      where
        inner : Bool
        inner = ltb (length old) (length_after used q.jobs)

        told : Second (write_checks l q used (length old))
        told = if_second (ltb 65536 (length_after used q.jobs)) 1 0 (call_checks inner q.bound l q accepted) (seconds (call_checks inner q.bound l q) (call_checks_lem inner q.bound l q) accepted none)

pub follow_second : (l : Loaded) (w : Watch) (s : List ℕ) (r : Screen) → Following l w s r → Told12 r.answer
follow_second l w s r x = answered (offered false l w.ask s x.v) 0 0 (behind (offered_checks false l w.ask s) x.v (λ e z. no_second _ _ _ _ _ _ _ _ _ _ _ (x.behind e))) x.says

pub how_late_second : (l : Loaded) (o : Overruns) (s : List ℕ) (r : Answer) → HowLate l o s r → Told12 r
how_late_second l o s r x = answered (late_verdict l o s) x.t 0 (seconds _ (late_checks l o s) accepted none) x.says

-- ── reasons ──

explained_second : {P : Problem} {q : Asked} {j : ℕ} {v : Verdict} {m : List ℕ} → Explained P q j v m → Second v
explained_second (unsettled n) z = refl
explained_second (outside f n) z = refl
explained_second (explained f t c) z = refl

pub why_start_second : (l : Loaded) (q : Question) (bytes old new : List ℕ) (r : Answer) → WhyStart l q bytes old new r → Told12 r
why_start_second l q bytes old new r x =
    let k = all_checks l q.ask bytes (length old) in
    answered (settling_checks l q.ask bytes (length old) x.v) (length x.chain) 0 (behind k x.v (λ e. explained_second (x.behind e))) x.says

pub why_no_plan_second : (l : Loaded) (q : Ask) (r : Reason) → WhyNoPlan l q r → Told12 r.answer
why_no_plan_second l q r x = go (ℕ_discrete (reason_verdict l q).number 0)
  where
    of : (h : Hindrance) → Told12 (reason_of h).answer
    of (Never p) z = refl
    of (TooDear p) z = refl
    of Neither z = refl

    go : Dec ((reason_verdict l q).number ≡ 0) → Told12 r.answer
    go (yes z) = subst (λ (s : Reason). Told12 s.answer) (sym (x.tells (accepts (call_checks_lem false q.bound l q) z)).1) (of (hindrance_of (problem l q) x.est q.bound))
    go (no n) = answered (reason_verdict l q) 0 0 (seconds (call_checks false q.bound l q) (call_checks_lem false q.bound l q) accepted none) (ap (λ (s : Reason). s.answer) (x.refuses n))

-- ── edits of an open table ──

open_second : (u : OpenTable) → Second (open_checks u)
open_second u = seconds (table_checks (present u)) (table_checks_lem (present u)) accepted none

edit_second : (t : OpenTable) (k : ℕ) (u : OpenTable) → Second (edit_checks t k u)
edit_second t k u = if_second (leb t.count k) 22 k (open_checks u) (open_second u)

module _ (t new : OpenTable) (r : Answer) where
  pub begin_second : (atoms : ℕ) → Leaves (beginning t atoms) new r → Told12 r
  begin_second atoms x = answered (open_checks (empty_of atoms)) 0 0 (open_second (empty_of atoms)) x.answer

  pub add_second : (a : Action) → Leaves (adding t a) new r → Told12 r
  add_second a x = answered (open_checks (enlarged t a)) t.count 0 (open_second (enlarged t a)) x.answer

  pub replace_second : (y : Replacement) → Leaves (replacing t y) new r → Told12 r
  replace_second y x = let u = exchanged t y.job y.record in answered (edit_checks t y.job u) 0 0 (edit_second t y.job u) x.answer

  pub remove_second : (k : ℕ) → Leaves (removing t k) new r → Told12 r
  remove_second k x = answered (edit_checks t k t) 0 0 (edit_second t k t) x.answer

-- ── files and readings ──

-- checks behind which 3 to 9 and 20 of a call come
reads : (file : List ℕ) (room : ℕ) → Second (read_checks file room)
unfolding read_checks save_checks
reads file room = if_second _ 1 0 _ (if_second _ 2 0 _ (if_second _ 2 0 (record_checks rs q room) (if_second (any (spoilt rs) q.jobs) 2 0 (call_checks false q.bound table q accepted) told)))
  where
    q : Ask
    q = ask_in (trailer_in file)

    rs : List ℕ
    rs = records_in file

    table : Loaded
    table = table_in rs q.jobs room

    told : Second (call_checks false q.bound table q accepted)
    told = seconds (call_checks false q.bound table q) (call_checks_lem false q.bound table q) accepted none

pub read_file_second : (file : List ℕ) (old new : List Action) (r : ReadAnswer) → Reads file old new r → Told12 r.answer
read_file_second file old new r x = answered (read_checks file (length old)) 0 0 (reads file (length old)) (ap (λ (s : ReadAnswer). s.answer) x.says ∙ reading_says file (length old))

pub batches_second : (gs : List ℕ) (old new : List Action) (r : BatchAnswer) → Batches gs old new r → Told12 r.answer
batches_second gs old new r x = answered (batch_checks gs (length old)) 0 0 (checks_second gs (length old)) x.expands.says

pub tidy_second : (used : ℕ) (old new : List ℕ) (r : Answer) → Tidies used old new r → Told12 r
unfolding tidy_checks
tidy_second used old new r x = answered (tidy_checks used old) (save_length (take used old)) 0 (if_second _ 1 0 _ (if_second _ 3 0 _ (reads (take used old) 255))) x.says

pub page_second : (file old new : List ℕ) (r : Answer) → Pages file old new r → Told12 r
page_second file old new r x = answered (room_check (length old)) (length x.text) 0 (if_second (ltb (length old) 8192) 3 0 accepted none) x.says

pub opening_facts_second : (b : BenchReading) (m : Marks) (given : ℕ) (a : Opening) → Opens b m given a → a.number ≢ 12 → a.second ≡ 0
unfolding opening_checks mark_checks
opening_facts_second b m given a e =
    subst (λ (o : Opening). o.number ≢ 12 → o.second ≡ 0) (sym e)
    (if_second (ltb m.room m.count) 3 0 _ (if_second (not (in_range b.temperature)) 17 0 _ (if_second (not (in_range b.humidity)) 17 1 _ (if_second (ltb 16 m.count) 18 16 _
    (seconds (refuse_at bads m.count 18) (at_checks bads m.count 18 (omega arith)) accepted none)))))
  where
    bads : ℕ → Bool
    bads i = bad (m.mark i)
