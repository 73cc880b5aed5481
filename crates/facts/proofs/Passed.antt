-- A test that all jobs of a walk pass: what it says of each.
-- Assumes nothing.
use mathlib.Core.Path.{◌≡◌, sym, subst, ◌∙◌}
use mathlib.Core.Bool.{Bool, true, false, true≢false}
use mathlib.Core.List.{List, [], ◌∷◌}
use Prim.Native.Nat.{ℕ}
use lib.Dec.{T}
use Rattle.std.specs.Prelude.{Option, Some, None, MatchOption}
use Rattle.std.specs.Fn.{Mut, Called}
use Rattle.std.specs.List.{FoldsTo}
use Rattle.std.specs.Iterator.{Yields, ChecksAll}
use Rattle.facts.specs.Facts.{has}
use Rattle.facts.specs.Walks.{Comes}
use Rattle.facts.specs.declared.Members.{Members}
use Rattle.facts.proofs.Walks.{Done, done_none, done_next, done_all}

module _ {F : Type 0} (g : Mut F (ℕ × Unit {0}) Bool) (f : F) (X : ℕ → Type 0) (one : (i : ℕ) (q : F) → Called g f (i, tt) true q → X i × (q ≡ f)) where
  abbrev steps : Members → Option ℕ → Members → Type 0
  steps s o t = Comes s.left o t.left

  walked : {all : ℕ} (xs : List ℕ) (m t : Members) (last : F) → Done X all m.left → Yields steps m xs t → FoldsTo (λ p x q. Called g p (x, tt) true q) f xs last → Done X all t.left
  walked {all} [] m t last d y k = subst (λ (s : Members). Done X all s.left) y d
  walked {all} (x ∷ xs) m t last d (j, step, y) (p, call, k) =
      let r = one x p call in
      walked xs j t last (done_next d step.2 (subst X step.1 r.0)) y (subst (λ (q : F). FoldsTo (λ p x q. Called g p (x, tt) true q) q xs last) r.1 k)

  ended : (t u : Members) (r : Bool) (last : F) (o : Option ℕ) → steps t o u → MatchOption o (r ≡ true) (λ x. (r ≡ false) × ((h : F) × Called g last (x, tt) false h)) → r ≡ true → t.left ≡ 0
  ended t u r last None step n e = step
  ended t u r last (Some x) step n e = absurd (true≢false (sym e ∙ n.0))

  pub all_passed : (m u : Members) (r : Bool) → ChecksAll steps g m f r u → r ≡ true → (i : ℕ) → T (has m.left i) → X i
  all_passed m u r (xs, o, last, (t, y, step), k, end) e = done_all (walked xs m t last done_none y k) (ended t u r last o step end e)
