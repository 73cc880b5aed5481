-- The checks of reading, one list behind another.
-- Assumes nothing.
use mathlib.Core.Path.{◌≡◌, sym, ap, ◌∙◌, subst}
use mathlib.Core.Bool.{Bool, ◌||◌}
use mathlib.Core.List.{List}
use Prim.Native.Nat.{ℕ, ◌/◌, ◌≤◌}
use lib.Dec.{ltb}
use lib.ListN.{length, get_or}
use Rattle.std.specs.Prelude.{Ok, Err}
use Rattle.facts.proofs.Bools.{or_l, at_most}
use Rattle.refusals.specs.Refusals.{Verdict, accepted}
use Rattle.refusals.proofs.Refused.{stopped}
use Rattle.tables.specs.declared.Loaded.{Loaded}
use Rattle.tables.specs.declared.Ask.{Ask}
use Rattle.tables.specs.declared.Answer.{Answer}
use Rattle.tables.specs.Tables.{problem, answer_of, filled, changed, call_checks}
use Rattle.tables.specs.Steps.{Judges, Cleared}
use Rattle.tables.proofs.Lent.{filled_same}
use Rattle.tables.proofs.Laws.{said, numbered, left_so, changed_new}
use Rattle.tables.proofs.Calls.{call_checks_lem, goes_behind}
use Rattle.plantext.specs.Names.{names_check}
use Rattle.plantext.proofs.Laws.{names_checks}
use Rattle.plantext.specs.Reading.{plan_said, lines_read, text_checks, read_verdict, ReadsText}
use Rattle.plantext_read.specs.Steps.{SaysLines}

module _ (l : Loaded) (q : Ask) (names text old : List ℕ) {short : Bool} {f : Answer} (e : short ≡ (ltb (length old) q.jobs || ltb (length names / 16) q.jobs)) (h : Judges (call_checks short 0 l q accepted) (Cleared short 0 l q) f) where
  abbrev few : Bool
  few = ltb (length old) q.jobs || ltb (length names / 16) q.jobs

  judged : Judges (call_checks few 0 l q accepted) (Cleared few 0 l q) f
  judged = subst (λ (b : Bool). Judges (call_checks b 0 l q accepted) (Cleared b 0 l q) f) e h

  -- the answer and lent memory, in one
  reads : {r : Answer} {new : List ℕ} → (r ≡ answer_of (read_verdict l q names text (length old)) 0 0)
      × (new ≡ changed (read_verdict l q names text (length old)) (filled (plan_said (problem l q) names text (lines_read (problem l q) names text)) q.jobs old) old) → ReadsText l q names text old new r
  reads p = record { says = p.0; leaves = p.1 }

  -- refused before the names are looked at
  pub call_refused : (f.number ≡ 0 → ⊥) → ReadsText l q names text old old f
  unfolding read_verdict
  call_refused n =
      let b : (call_checks few 0 l q accepted).number ≡ 0 → ⊥ = λ z. n (numbered 0 0 judged.says ∙ z) in
      reads (left_so 0 _ old judged.says (stopped (call_checks few 0 l q) (call_checks_lem few 0 l q) b _) b)

  module _ (z : f.number ≡ 0) where
    pub clear : Cleared few 0 l q
    clear = judged.order z

    pub room : q.jobs ≤ length old
    room = at_most (length old) q.jobs (λ x. clear.room (or_l (ltb (length old) q.jobs) (ltb (length names / 16) q.jobs) x))

    behind : read_verdict l q names text (length old) ≡ names_check names q.jobs (text_checks (problem l q) names text accepted)
    unfolding read_verdict
    behind = goes_behind (call_checks_lem few 0 l q) judged.says z (names_check names q.jobs (text_checks (problem l q) names text accepted))

    module _ {g : Answer} (k : g ≡ answer_of (names_check names q.jobs accepted) 0 0) where
      -- refused for a name
      pub names_refused : (g.number ≡ 0 → ⊥) → ReadsText l q names text old old g
      names_refused n =
          let b : (names_check names q.jobs accepted).number ≡ 0 → ⊥ = λ y. n (numbered 0 0 k ∙ y) in
          reads (left_so 0 _ old k (behind ∙ stopped (names_check names q.jobs) (names_checks names q.jobs) b _) b)

      module _ (y : g.number ≡ 0) where
        lines : read_verdict l q names text (length old) ≡ text_checks (problem l q) names text accepted
        lines = behind ∙ goes_behind (names_checks names q.jobs) k y (text_checks (problem l q) names text accepted)

        -- refused for a line
        pub line_refused : (t : Answer) → SaysLines (problem l q) names text (Err t) → ReadsText l q names text old old t
        line_refused t s = reads (left_so 0 _ old s.0 lines (λ x. s.1 (numbered 0 0 s.0 ∙ x)))

        -- read
        pub read_all : (starts : List ℕ) → SaysLines (problem l q) names text (Ok starts) → {t : Answer} → t ≡ answer_of accepted 0 0
            → {new : List ℕ} → new ≡ filled (λ i. get_or starts i 0) q.jobs old → ReadsText l q names text old new t
        read_all starts s x w =
            let v = read_verdict l q names text (length old) in
            let e : v ≡ accepted = lines ∙ s.0 in
            reads (x ∙ said 0 0 e, w ∙ filled_same (λ i. get_or starts i 0) _ q.jobs old s.1 ∙ sym (changed_new v _ old (ap (λ (y : Verdict). y.number) e)))
