-- The checks of settling, one behind another, and what they leave.
-- Assumes nothing.
use mathlib.Core.Path.{◌≡◌, ◌∙◌, subst}
use mathlib.Core.Bool.{Bool, not, ◌&&◌, ◌||◌}
use mathlib.Core.List.{List}
use Prim.Native.Nat.{ℕ, ◌/◌, ◌≤◌}
use native.Mathlib.Omega.{arith}
use lib.Dec.{ltb}
use lib.ListN.{length}
use Rattle.facts.specs.Facts.{has}
use Rattle.facts.proofs.Bools.{or_l, or_r, and_l, and_r, certain, at_most}
use Rattle.facts.proofs.Least.{any_of}
use Rattle.refusals.specs.Refusals.{Verdict, accepted}
use Rattle.rules.specs.Table.{Problem, strays}
use Rattle.rules.specs.Settling.{settle_checks}
use Rattle.refusals.proofs.Refused.{Checks, if_checks, at_checks, then_checks, if_zero, at_zero, both}
use Rattle.rules.proofs.Checked.{below}
use Rattle.tables.specs.declared.Loaded.{Loaded}
use Rattle.tables.specs.declared.Ask.{Ask}
use Rattle.tables.specs.declared.Answer.{Answer}
use Rattle.tables.specs.Tables.{problem, answer_of, call_checks}
use Rattle.tables.specs.Steps.{Judges, Cleared}
use Rattle.tables.proofs.Laws.{said}
use Rattle.tables.proofs.Calls.{call_checks_lem, cleared, accepts_by, stops_there, goes_behind}
use Rattle.times.specs.Times.{pair_first, pair_second}
use Rattle.settle.specs.Settle.{settling_checks}
use Rattle.settle.specs.Steps.{Settleable}

settle_checks_lem : (P : Problem) (set : ℕ) (first second : ℕ → ℕ) (pairs : ℕ) → Checks (settle_checks P set first second pairs)
unfolding settle_checks
settle_checks_lem P set first second pairs =
    then_checks (if_checks (strays P.count set) 15 601 (omega arith))
    (then_checks (if_checks (ltb 600 pairs) 15 600 (omega arith)) (at_checks (λ k. not (has set (first k) && has set (second k))) pairs 15 (omega arith)))

module _ (l : Loaded) (q : Ask) (bytes : List ℕ) (room : ℕ) where
  -- lent memory is too short
  abbrev pub short : Bool
  short = ltb room q.jobs || ltb (length bytes / 2) q.pairs

  -- check 15
  abbrev pub later : Verdict → Verdict
  later next = settle_checks (problem l q) q.set (pair_first bytes) (pair_second bytes) q.pairs next

  pub all_checks : Checks (settling_checks l q bytes room)
  all_checks = then_checks (call_checks_lem short q.bound l q) (settle_checks_lem (problem l q) q.set (pair_first bytes) (pair_second bytes) q.pairs)

  -- a pair names a job outside the set
  outside : ℕ → Bool
  outside k = not (has q.set (pair_first bytes k) && has q.set (pair_second bytes k))

  -- where all checks accept
  pub settleable : settling_checks l q bytes room accepted ≡ accepted → Settleable l q bytes room
  unfolding settle_checks outside
  settleable e =
      let d = both (later accepted) (call_checks_lem short q.bound l q) e in
      let c = cleared short q.bound l q d.0 in
      let a = if_zero (strays q.jobs q.set) 15 601 _ (omega arith) d.1 in
      let b = if_zero (ltb 600 q.pairs) 15 600 _ (omega arith) a.1 in
      let k = at_zero outside q.pairs 15 _ (omega arith) b.1 in
      record {
        clear = c;
        ready = record {
          few = c.few;
          lent = at_most (length bytes / 2) q.pairs (λ x. c.room (or_r (ltb room q.jobs) _ x));
          named = below q.jobs q.set a.0;
          paired = λ i h. (let p = certain (has q.set (pair_first bytes i) && has q.set (pair_second bytes i)) (λ x. k.0 (any_of outside q.pairs i h x)) in
              (and_l (has q.set (pair_first bytes i)) _ p, and_r (has q.set (pair_first bytes i)) _ p));
        };
        wide = at_most room q.jobs (λ x. c.room (or_l (ltb room q.jobs) _ x));
      }

  -- an answer that says what the checks say
  judged : {r : Answer} → r ≡ answer_of (settling_checks l q bytes room accepted) 0 0 → Judges (settling_checks l q bytes room accepted) (Settleable l q bytes room) r
  judged e = record { says = e; order = λ z. settleable (accepts_by all_checks e z) }

  -- behind the answer of checks 3 to 9 and 20
  module _ {s : Bool} {f : Answer} (is : s ≡ short) (j : Judges (call_checks s q.bound l q accepted) (Cleared s q.bound l q) f) where
    told : f ≡ answer_of (call_checks short q.bound l q accepted) 0 0
    told = subst (λ (b : Bool). f ≡ answer_of (call_checks b q.bound l q accepted) 0 0) is j.says

    pub call_refused : (f.number ≡ 0 → ⊥) → Judges (settling_checks l q bytes room accepted) (Settleable l q bytes room) f
    call_refused n = judged (stops_there (call_checks_lem short q.bound l q) told n (later accepted))

    module _ (z : f.number ≡ 0) where
      pub lent : (q.jobs ≤ 24) × (q.pairs ≤ length bytes / 2)
      lent = let c = cleared short q.bound l q (accepts_by (call_checks_lem short q.bound l q) told z) in
          (c.few, at_most (length bytes / 2) q.pairs (λ x. c.room (or_r (ltb room q.jobs) _ x)))

      pub pairs_judged : {r : Answer} → r ≡ answer_of (later accepted) 0 0 → Judges (settling_checks l q bytes room accepted) (Settleable l q bytes room) r
      pairs_judged e = judged (e ∙ said 0 0 (goes_behind (call_checks_lem short q.bound l q) told z (later accepted)))
