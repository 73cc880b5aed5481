-- What the tests of the reader say of its checks, and where the records stand.
-- Assumes nothing.
use mathlib.Core.Path.{◌≡◌, sym, ap, ap₂, ◌∙◌, subst}
use mathlib.Core.Bool.{Bool, true, false, cond}
use mathlib.Core.List.{List}
use Prim.Native.Nat.{ℕ, ◌+◌, ◌-◌, ◌*◌, ◌<◌}
use native.Mathlib.Nat.{zero-add}
use native.Mathlib.Omega.{arith}
use borrow.Author.Tests.{eq-eqb, ne_eqb}
use lib.Dec.{T}
use lib.ListN.{length, take, drop}
use Rattle.facts.specs.Least.{any}
use Rattle.facts.proofs.Bools.{passes}
use Rattle.facts.proofs.Least.{any_of, any_none}
use Rattle.refusals.specs.Refusals.{Verdict, refused}
use Rattle.refusals.proofs.Refused.{if_hit, if_pass}
use Rattle.tables.specs.declared.Loaded.{Loaded}
use Rattle.tables.specs.declared.Ask.{Ask}
use Rattle.tables.specs.declared.Answer.{Answer}
use Rattle.tables.specs.Tables.{answer_of}
use Rattle.tables.proofs.Laws.{said}
use Rattle.jobfile.specs.declared.Read.{Read}
use Rattle.jobfile.specs.Format.{trailer_at, trailer_in, ask_in, distance_in, too_far, records_in, table_in}
use Rattle.jobfile.specs.Calls.{record_checks, save_checks, nothing, whole, handed, handed_from}

-- ── what is returned ──

pub gives_stop : {r : Read} {a : Answer} {v : Verdict} (q : Ask) (l : Loaded) → r ≡ nothing a → a ≡ answer_of v 0 0 → (a.number ≡ 0 → ⊥) → r ≡ handed v q l
gives_stop {r} {a} {v} q l e h n =
    e ∙ ap nothing h
    ∙ sym (ap (λ (b : Bool). cond b (whole (answer_of v 0 0) q l) (nothing (answer_of v 0 0))) (ne_eqb v.number 0 (λ z. n (ap (λ (x : Answer). x.number) h ∙ z))))

pub gives_no : {r : Read} {a : Answer} {v : Verdict} (q : Ask) (l : Loaded) (n : ℕ) → r ≡ nothing a → a ≡ answer_of (refused n 0) 0 0 → v ≡ refused n 0 → 0 < n
    → r ≡ handed v q l
gives_no q l n e h k p = gives_stop q l e (h ∙ said 0 0 k) (λ z. let o : n ≡ 0 = ap (λ (x : Answer). x.number) (sym h) ∙ z in absurd (omega arith))

pub gives : {a : Answer} {v : Verdict} (q : Ask) (l : Loaded) → a ≡ answer_of v 0 0 → a.number ≡ 0 → whole a q l ≡ handed v q l
gives {a} {v} q l h z =
    ap (λ (x : Answer). whole x q l) h
    ∙ sym (ap (λ (b : Bool). cond b (whole (answer_of v 0 0) q l) (nothing (answer_of v 0 0))) (eq-eqb v.number 0 (ap (λ (x : Answer). x.number) (sym h) ∙ z)))

-- ── where the records stand ──

pub part_all : (n k : ℕ) (file : List ℕ) → take (n + k - n) (drop n file) ≡ take k (drop n file)
part_all n k file = let e : n + k - n ≡ k = omega arith in ap (λ (m : ℕ). take m (drop n file)) e

module _ (file : List ℕ) (room : ℕ) (t : List ℕ) (q : Ask) (d : ℕ) (e : t ≡ trailer_in file) (asks : q ≡ ask_in t) (far : d ≡ distance_in t) where
  asks_is : q ≡ ask_in (trailer_in file)
  asks_is = asks ∙ ap ask_in e

  far_is : d ≡ distance_in (trailer_in file)
  far_is = far ∙ ap distance_in e

  test_is : too_far d q.jobs (trailer_at file) ≡ too_far (distance_in (trailer_in file)) (ask_in (trailer_in file)).jobs (trailer_at file)
  test_is = ap₂ (λ (a : ℕ) (b : Ask). too_far a b.jobs (trailer_at file)) far_is asks_is

  pub save_no : T (too_far d q.jobs (trailer_at file)) → save_checks file room ≡ refused 2 0
  unfolding save_checks
  save_no h = if_hit _ 2 0 _ (subst T test_is h)

  pub save_on : {r : Read} (rs : List ℕ) → (T (too_far d q.jobs (trailer_at file)) → ⊥) → rs ≡ take (32 * q.jobs) (drop (trailer_at file - d) file)
      → r ≡ handed (record_checks rs q room) q (table_in rs q.jobs room)
      → r ≡ handed_from (save_checks file room) file room
  unfolding save_checks
  save_on rs n stands h =
      h ∙ ap₂ (λ (a : List ℕ) (b : Ask). handed (record_checks a b room) b (table_in a b.jobs room)) records_is asks_is
      ∙ ap (λ (v : Verdict). handed_from v file room) (sym (if_pass _ 2 0 _ (λ x. n (subst T (sym test_is) x))))
    where
      records_is : rs ≡ records_in file
      records_is = stands ∙ ap₂ (λ (a : Ask) (b : ℕ). take (32 * a.jobs) (drop (trailer_at file - b) file)) asks_is far_is
