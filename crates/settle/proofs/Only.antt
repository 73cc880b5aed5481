-- The promise of `settle` leaves one result: the answer and all lent memory. A pair of a job with itself gives 16, or 15 outside the set.
-- Assumes nothing.
use mathlib.Core.Path.{◌≡◌, refl, sym, ap, ◌∙◌}
use mathlib.Core.Logic.{inl, inr}
use mathlib.Core.Bool.{Bool, true, false, not, ◌&&◌}
use mathlib.Core.List.{List}
use Prim.Native.Nat.{ℕ, ◌<◌}
use native.Mathlib.Omega.{arith}
use lib.Dec.{T, eqb, eqb_refl, not_T}
use lib.ListN.{length}
use Rattle.facts.specs.Facts.{has}
use Rattle.facts.specs.Least.{any}
use Rattle.facts.proofs.Bools.{and_l, and_of, eqb_of}
use Rattle.facts.proofs.Least.{least_hit, any_of}
use Rattle.refusals.specs.Refusals.{Verdict, accepted, refused, refuse_if, Ruled}
use Rattle.rules.specs.Settling.{Obeys, Settled, Settles, settle_checks}
use Rattle.refusals.proofs.Refused.{at_hit, went_on, ruled_yes}
use Rattle.rules.proofs.Settle.{settles_only, itself}
use Rattle.tables.specs.declared.Loaded.{Loaded}
use Rattle.tables.specs.declared.Ask.{Ask}
use Rattle.tables.specs.declared.Answer.{Answer}
use Rattle.tables.specs.Tables.{problem, answer_of, call_checks}
use Rattle.tables.proofs.Calls.{call_checks_lem}
use Rattle.tables.proofs.Fills.{Single, fills_only}
use Rattle.times.specs.Times.{pair_first, pair_second, wanted}
use Rattle.settle.specs.Settle.{settling_checks, Settling}
use Rattle.settle.specs.Steps.{Settleable}
use Rattle.settle.proofs.Faults.{short, all_checks, settleable}

-- a check with number 15 in front of a refusal 15
fifteen : (b : Bool) (place : ℕ) (v : Verdict) → v.number ≡ 15 → (refuse_if b 15 place v).number ≡ 15
unfolding refuse_if
fifteen true place v e = refl
fifteen false place v e = e

module _ (l : Loaded) (q : Ask) (bytes old : List ℕ) where
  abbrev C : Verdict → Verdict
  C = settling_checks l q bytes (length old)

  pub settle_only : (new new' : List ℕ) (r r' : Answer) → Settling l q bytes old new r → Settling l q bytes old new' r' → (r ≡ r') × (new ≡ new')
  settle_only new new' r r' = λ x y. fills_only (all_checks l q bytes (length old)) _ 0 q.jobs old single r r' new new' x y
    where
      single : Single (all_checks l q bytes (length old)) (λ v value s. (value ≡ 0) × Settles (problem l q) (wanted l q bytes) v s) 0 q.jobs old
      single _ v w b c s t x y =
          let o = settles_only (problem l q) (wanted l q bytes) v w s t x.1 y.1 in
          (o.0, x.0 ∙ sym y.0, λ z. o.1 (ruled_yes 16 v (omega arith) x.1 z).0)

  -- ── a pair of a job with itself ──

  module _ (new : List ℕ) (r : Answer) (a : Settling l q bytes old new r) (k : ℕ) (h : k < q.pairs) (self : pair_first bytes k ≡ pair_second bytes k) where
    -- inside the set it can't be met
    pub itself_inside : C accepted ≡ accepted → r ≡ answer_of (refused 16 0) 0 0
    itself_inside c = by (a.behind c).1
      where
        ok : Settleable l q bytes (length old)
        ok = settleable l q bytes (length old) c

        on : C a.v ≡ a.v
        on = went_on C (all_checks l q bytes (length old)) (ap (λ (v : Verdict). v.number) c) a.v

        asked : T ((wanted l q bytes).pair (pair_first bytes k) (pair_first bytes k))
        asked = any_of (λ i. eqb (pair_first bytes i) (pair_first bytes k) && eqb (pair_second bytes i) (pair_first bytes k)) q.pairs k h (and_of (eqb (pair_first bytes k) (pair_first bytes k)) _ (eqb_refl (pair_first bytes k)) (eqb_of (sym self)))

        there : pair_first bytes k < q.jobs
        there = ok.ready.named (pair_first bytes k) (ok.ready.paired k h).0

        by : Ruled a.v (Settled (problem l q) (wanted l q bytes) a.s) 16 ((y : ℕ → ℕ) → Obeys (problem l q) (wanted l q bytes) y → ⊥) → r ≡ answer_of (refused 16 0) 0 0
        by (inl (e, s)) = absurd (itself (problem l q) ok.clear.order (wanted l q bytes) a.s (pair_first bytes k) there asked s.keeps)
        by (inr (e, n)) = a.says ∙ ap (λ (v : Verdict). answer_of v a.value 0) (on ∙ e)

    -- outside the set it is refused before that, once checks 3 to 9 and 20 have passed
    pub itself_outside : call_checks (short l q bytes (length old)) q.bound l q accepted ≡ accepted → (T (has q.set (pair_first bytes k)) → ⊥) → r.number ≡ 15
    unfolding settle_checks
    itself_outside c n = ap (λ (x : Answer). x.number) a.says ∙ ap (λ (v : Verdict). v.number) (on (settle_checks (problem l q) q.set (pair_first bytes) (pair_second bytes) q.pairs a.v))
        ∙ fifteen _ 601 _ (fifteen _ 600 _ (ap (λ (v : Verdict). v.number) (at_hit _ _ 15 a.v refl (least_hit _ _ strays).0)))
      where
        on : (v : Verdict) → call_checks (short l q bytes (length old)) q.bound l q v ≡ v
        on = went_on (call_checks (short l q bytes (length old)) q.bound l q) (call_checks_lem (short l q bytes (length old)) q.bound l q) (ap (λ (v : Verdict). v.number) c)

        strays : T (any (λ i. not (has q.set (pair_first bytes i) && has q.set (pair_second bytes i))) q.pairs)
        strays = any_of (λ i. not (has q.set (pair_first bytes i) && has q.set (pair_second bytes i))) q.pairs k h
            (not_T (has q.set (pair_first bytes k) && has q.set (pair_second bytes k)) (λ x. n (and_l (has q.set (pair_first bytes k)) _ x)))
