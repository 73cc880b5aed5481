-- A search of a walk over a word: it stops at a number that passes, or no number of the word does.
-- Assumes nothing.
use mathlib.Core.Path.{◌≡◌, refl, sym, ap, subst, ◌∙◌}
use mathlib.Core.Bool.{Bool, true, false}
use mathlib.Core.List.{List, [], ◌∷◌}
use Prim.Native.Nat.{ℕ}
use denote.Ref.{Bor}
use lib.Dec.{T}
use Rattle.std.specs.Prelude.{Option, Some, None, MatchOption}
use Rattle.std.specs.Option.{IfSome}
use Rattle.std.specs.Fn.{Mut, CalledAt}
use Rattle.std.specs.Iterator.{YieldsThen}
use Rattle.std.specs.List.{FoldsTo}
use Rattle.facts.specs.declared.Members.{Members}
use Rattle.facts.specs.Facts.{has}
use Rattle.facts.specs.Walks.{Comes}
use Rattle.facts.proofs.Walks.{Done, done_none, done_next, done_all}

abbrev Turn : Members → Option ℕ → Members → Type 0
Turn s r t = Comes s.left r t.left

-- the test is f at every call, and what it answers says Yes or No of the number
module _ {F : Type 0} (g : Mut F (Bor ℕ × Unit {0}) Bool) (f : F) (Yes No : ℕ → Type 0) (yea : (x : ℕ) (q : F) → CalledAt g f x true q → Yes x) (nay : (x : ℕ) (q : F) → CalledAt g f x false q → (q ≡ f) × No x) where
  go : {all : ℕ} (xs : List ℕ) (s u : Members) (r : Option ℕ) (p j : F) → p ≡ f → Done No all s.left → YieldsThen Turn s xs r u → FoldsTo (λ p x q. CalledAt g p x false q) p xs j → IfSome r (λ x. (h : F) × CalledAt g j x true h)
      → MatchOption r ((i : ℕ) → T (has all i) → No i) Yes
  go [] s u None p j e d (t, same, end) k h = λ i l. done_all d (ap (λ (m : Members). m.left) same ∙ end) i l
  go [] s u (Some x) p j e d y k (q, call) = yea x q (subst (λ (m : F). CalledAt g m x true q) (sym k ∙ e) call)
  go (x ∷ xs) s u r p j e d (t, (m, step, rest), last) (o, call, k) h =
      let n = nay x o (subst (λ (z : F). CalledAt g z x false o) e call) in
      go xs m u r o j n.0 (done_next d step.2 (subst No step.1 n.1)) (t, rest, last) k h

  pub found_of : (s u : Members) (r : Option ℕ)
      → (xs : List ℕ) × (j : F) × YieldsThen Turn s xs r u × FoldsTo (λ p x q. CalledAt g p x false q) f xs j × IfSome r (λ x. (h : F) × CalledAt g j x true h)
      → MatchOption r ((i : ℕ) → T (has s.left i) → No i) Yes
  found_of s u r (xs, j, y, k, h) = go xs s u r f j refl done_none y k h
