-- A file that 01's reader took is read with release 0 by rule 1 and otherwise the same, and its plans are valid by 01's four sentences;
-- a file of rule 2 it refused with 4.
-- Assumes nothing.
use mathlib.Core.Path.{◌≡◌, sym, ap, ◌∙◌, subst}
use mathlib.Core.Logic.{◌↔◌}
use mathlib.Core.Bool.{false, not}
use mathlib.Core.List.{List}
use Prim.Native.Nat.{ℕ, ◌+◌, ◌*◌, ◌≤◌, ◌<◌, min}
use native.Mathlib.Omega.{arith}
use lib.Dec.{T, eqb, eqb→eq, ltb, T_not, not_T}
use lib.ListN.{length, get_or, replicate}
use Rattle.facts.specs.Least.{any}
use Rattle.facts.proofs.Bools.{certain}
use Rattle.facts.proofs.Least.{any_of, any_at}
use Rattle.refusals.specs.Refusals.{Verdict, accepted, refused, refuse_if}
use Rattle.refusals.proofs.Refused.{if_pass, if_hit, if_zero}
use Rattle.rules.specs.Table.{Problem, between, table_checks, bound_check}
use Rattle.rules.specs.Plans.{Plan, Valid}
use Rattle.rules.specs.Scope.{Valid01}
use Rattle.rules.proofs.Scope.{valid_01}
use Rattle.rules.proofs.Checked.{in_range_lem}
use Rattle.tables.specs.declared.Action.{Action}
use Rattle.tables.specs.declared.Loaded.{Loaded}
use Rattle.tables.specs.declared.Ask.{Ask}
use Rattle.tables.specs.Tables.{no_job, job_at, AtomCount, problem, call_checks}
use Rattle.tables.proofs.Laws.{rule_1}
use Rattle.tables.proofs.Calls.{cleared}
use Rattle.tables.proofs.Lent.{filled_same, filled_at}
use Rattle.bytes_le.specs.Little.{number}
use Rattle.bytes_le.proofs.Numbers.{zeros_number}
use Rattle.jobfile.specs.Format.{trailer_at, trailer_in, ask_in, distance_in, too_far, records_in, spoilt, action_in, table_in}
use Rattle.jobfile.specs.Calls.{read_checks, save_checks, handed, reading}
use Rattle.jobfile.specs.Old.{spoilt01, action01, table01, problem01, table_checks01, read_checks01, reading01}

-- ── six zeros ──

module _ (rs : List ℕ) (i : ℕ) (clean : T (spoilt01 rs i) → ⊥) where
  zero_byte : (j : ℕ) → j < 6 → get_or rs (32 * i + 26 + j) 0 ≡ 0
  unfolding spoilt01
  zero_byte j l =
      eqb→eq (get_or rs (32 * i + 26 + j) 0) 0 (certain (eqb (get_or rs (32 * i + 26 + j) 0) 0) (λ x. clean (any_of (λ k. not (eqb (get_or rs (32 * i + 26 + k) 0) 0)) 6 j l x)))

  -- the first two are a release of 0
  unreleased : action_in rs i ≡ action01 rs i
  unreleased = ap (λ (r : ℕ). record {
    conditions = number 8 rs (32 * i);
    additions = number 8 rs (32 * i + 8);
    deletions = number 8 rs (32 * i + 16);
    duration = number 2 rs (32 * i + 24);
    release = r;
  }) (zeros_number 2 rs (32 * i + 26) (λ j l. zero_byte j (omega arith)))

  -- the last four are zeros
  unspoilt : T (spoilt rs i) → ⊥
  unfolding spoilt
  unspoilt h =
      let y = any_at (λ j. not (eqb (get_or rs (32 * i + 28 + j) 0) 0)) 4 h in
      let e : 32 * i + 26 + (2 + y.0) ≡ 32 * i + 28 + y.0 = omega arith in
      subst (λ (n : ℕ). T (not (eqb n 0))) (subst (λ (k : ℕ). get_or rs k 0 ≡ 0) e (zero_byte (2 + y.0) (omega (arith, y.1)))) y.2

-- ── a file that was taken ──

module _ (file : List ℕ) (room : ℕ) (taken : read_checks01 file room ≡ accepted) where
  abbrev rs : List ℕ
  rs = records_in file

  abbrev n : ℕ
  n = (ask_in (trailer_in file)).jobs

  record Taken : Type 0 where
    short : T (ltb 65536 (length file)) → ⊥
    long : T (ltb (length file) 24) → ⊥
    near : T (too_far (distance_in (trailer_in file)) n (trailer_at file)) → ⊥
    clean : T (any (spoilt01 rs) n) → ⊥
    table : table_checks01 (table01 file room) (ask_in (trailer_in file)) ≡ accepted

  was : Taken
  unfolding read_checks01
  was =
      let a = if_zero (ltb 65536 (length file)) 1 0 _ (omega arith) taken in
      let b = if_zero (ltb (length file) 24) 2 0 _ (omega arith) a.1 in
      let c = if_zero (too_far (distance_in (trailer_in file)) n (trailer_at file)) 2 0 _ (omega arith) b.1 in
      let d = if_zero (any (spoilt01 rs) n) 2 0 _ (omega arith) c.1 in
      record { short = a.0; long = b.0; near = c.0; clean = d.0; table = d.1 }

  each : (i : ℕ) → i < n → T (spoilt01 rs i) → ⊥
  each i l x = was.clean (any_of (spoilt01 rs) n i l x)

  same_table : table_in rs n room ≡ table01 file room
  same_table = ap (λ (ts : List Action). record { jobs = ts; lent = room }) (filled_same (action_in rs) (action01 rs) (min n 24) (replicate 24 no_job) (λ i l. unreleased rs i (each i (omega arith))))

  -- its atom count has no mark
  few_atoms : (ask_in (trailer_in file)).atoms ≤ 64
  unfolding table_checks
  few_atoms =
      (in_range_lem 1 64 _
      (if_zero (not (between 1 64 (ask_in (trailer_in file)).atoms)) 4 0 _ (omega arith) (if_zero (ltb room n) 3 0 _ (omega arith) was.table).1).0).1

  -- so its problem is 01's, and the checks are
  same_problem : problem (table01 file room) (ask_in (trailer_in file)) ≡ problem01 (table01 file room) (ask_in (trailer_in file))
  same_problem = ap (λ (m : AtomCount). record {
    count = n;
    conditions = λ i. (job_at (table01 file room) i).conditions;
    additions = λ i. (job_at (table01 file room) i).additions;
    deletions = λ i. (job_at (table01 file room) i).deletions;
    duration = λ i. (job_at (table01 file room) i).duration;
    release = λ i. (job_at (table01 file room) i).release;
    gap = m.gap;
    atoms = m.atoms;
    opening = (ask_in (trailer_in file)).opening;
    goals = (ask_in (trailer_in file)).goals;
  }) (rule_1 (ask_in (trailer_in file)).atoms (omega (arith, few_atoms)))

  same_checks : call_checks false (ask_in (trailer_in file)).bound (table01 file room) (ask_in (trailer_in file)) accepted ≡ accepted
  same_checks = ap (λ (P : Problem). refuse_if (ltb room n) 3 0 (table_checks P (bound_check (ask_in (trailer_in file)).bound accepted))) same_problem ∙ was.table

  takes : read_checks file room ≡ accepted
  unfolding read_checks save_checks
  takes =
      if_pass _ 1 0 _ was.short
      ∙ if_pass _ 2 0 _ was.long
      ∙ if_pass _ 2 0 _ was.near
      ∙ if_pass _ 2 0 _ (λ h. let y = any_at (spoilt rs) n h in unspoilt rs y.0 (each y.0 y.1) y.2)
      ∙ ap (λ (t : Loaded). call_checks false (ask_in (trailer_in file)).bound t (ask_in (trailer_in file)) accepted) same_table
      ∙ same_checks

  -- it is read with release 0 by rule 1 and otherwise the same
  pub as_before : reading file room ≡ reading01 file room
  as_before =
      ap (λ (v : Verdict). handed v (ask_in (trailer_in file)) (table_in rs n room)) takes
      ∙ ap (handed accepted (ask_in (trailer_in file))) same_table
      ∙ ap (λ (v : Verdict). handed v (ask_in (trailer_in file)) (table01 file room)) (sym taken)

  -- so its plans are valid by 01's four sentences
  pub valid_as_before : (bound : ℕ) (s : Plan) → Valid (problem (table01 file room) (ask_in (trailer_in file))) bound s ↔ Valid01 (problem (table01 file room) (ask_in (trailer_in file))) bound s
  valid_as_before bound s = valid_01 (problem (table01 file room) (ask_in (trailer_in file))) unheld (ap (λ (P : Problem). P.gap) same_problem) bound s
    where
      few : n < 25
      few = omega (arith, (cleared false (ask_in (trailer_in file)).bound (table01 file room) (ask_in (trailer_in file)) same_checks).few)

      unheld : (i : ℕ) → i < n → (job_at (table01 file room) i).release ≡ 0
      unheld i l = ap (λ (a : Action). a.release) (filled_at (action01 rs) (min n 24) (replicate 24 no_job) i no_job (omega (arith, few)) (omega (arith, few)))

-- ── a file of rule 2 ──

-- before there was a mark, a table with enough records and 128 or more for the atom count was refused with 4, in a call and in a file, with releases and without
pub marked_refused : (l : Loaded) (q : Ask) → (T (ltb l.lent q.jobs) → ⊥) → 128 ≤ q.atoms → table_checks01 l q ≡ refused 4 0
unfolding table_checks
marked_refused l q room mark =
    if_pass _ 3 0 _ room
    ∙ if_hit _ 4 0 _ (not_T (between 1 64 q.atoms) (λ x. omega (arith, mark, (in_range_lem 1 64 q.atoms (λ y. T_not (between 1 64 q.atoms) y x)).1)))

-- where today's reader takes a file with the mark and no release, 01's refused it with 4
pub refused_before : (file : List ℕ) (room : ℕ) → read_checks file room ≡ accepted → (T (any (spoilt01 (records_in file)) (ask_in (trailer_in file)).jobs) → ⊥) → 128 ≤ (ask_in (trailer_in file)).atoms
    → read_checks01 file room ≡ refused 4 0
unfolding read_checks save_checks read_checks01
refused_before file room taken clean mark =
    let a = if_zero (ltb 65536 (length file)) 1 0 _ (omega arith) taken in
    let b = if_zero (ltb (length file) 24) 2 0 _ (omega arith) a.1 in
    let c = if_zero (too_far (distance_in (trailer_in file)) (ask_in (trailer_in file)).jobs (trailer_at file)) 2 0 _ (omega arith) b.1 in
    let d = if_zero (any (spoilt (records_in file)) (ask_in (trailer_in file)).jobs) 2 0 _ (omega arith) c.1 in
    let e = if_zero (ltb room (ask_in (trailer_in file)).jobs) 3 0 _ (omega arith) d.1 in
    if_pass _ 1 0 _ a.0
    ∙ if_pass _ 2 0 _ b.0
    ∙ if_pass _ 2 0 _ c.0
    ∙ if_pass _ 2 0 _ clean
    ∙ marked_refused (table01 file room) (ask_in (trailer_in file)) e.0 mark
