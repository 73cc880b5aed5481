-- The ways out of a call that fills lent memory, and that its promise leaves one result.
-- Assumes nothing.
use mathlib.Core.Path.{◌≡◌, sym, ap, ◌∙◌}
use mathlib.Core.Bool.{Bool, cond}
use mathlib.Core.List.{List}
use Prim.Native.Nat.{ℕ, ◌<◌}
use native.Mathlib.Decide.{ℕ_discrete}
use borrow.Author.Tests.{eq-eqb}
use Rattle.refusals.specs.Refusals.{Verdict, accepted, refused_for}
use Rattle.refusals.proofs.Refused.{Checks, stopped, went_on}
use Rattle.tables.specs.declared.Answer.{Answer}
use Rattle.tables.specs.Tables.{answer_of, filled, changed, Fills}
use Rattle.tables.proofs.Laws.{said, accepts, numbered, answer_no, changed_new, changed_old}
use Rattle.tables.proofs.Lent.{filled_same}

module _ {C : Verdict → Verdict} (k : Checks C) (A : Verdict → ℕ → (ℕ → ℕ) → Type 0) (nay n : ℕ) (old : List ℕ) where
  -- ── the ways out ──

  module _ {f : Answer} (e : f ≡ answer_of (C accepted) 0 0) where
    -- the checks refuse
    pub fills_refused : {r : Answer} → (f.number ≡ 0 → ⊥) → r ≡ answer_of (refused_for f.number f.second f.place) 0 nay → Fills C A nay n old old r
    fills_refused h d = record {
      v = accepted;
      value = 0;
      s = λ i. 0;
      behind = λ a. absurd (h (numbered 0 0 e ∙ ap (λ (v : Verdict). v.number) a));
      says = d ∙ said 0 nay (ap (λ (a : Answer). refused_for a.number a.second a.place) (sym e));
      leaves = sym (changed_old (C accepted) _ old (λ z. h (numbered 0 0 e ∙ z)));
    }

    -- with the answer of the checks itself
    pub fills_fault : nay ≡ 0 → (f.number ≡ 0 → ⊥) → Fills C A nay n old old f
    fills_fault is h = fills_refused h (e ∙ ap (λ (x : ℕ). answer_of (C accepted) 0 x) (sym is) ∙ said 0 nay (ap (λ (a : Answer). refused_for a.number a.second a.place) e))

    -- they accept, and v comes behind them
    pub fills_behind : {r : Answer} {new : List ℕ} → f.number ≡ 0 → (v : Verdict) (value : ℕ) (s : ℕ → ℕ) → A v value s → r ≡ answer_of v value nay → new ≡ changed v (filled s n old) old
        → Fills C A nay n old new r
    fills_behind z v value s a d w = record {
      v = v;
      value = value;
      s = s;
      behind = λ _. a;
      says = d ∙ said value nay on;
      leaves = w ∙ ap (λ (x : Verdict). changed x (filled s n old) old) (sym on);
    }
      where
        on : C v ≡ v
        on = went_on C k (sym (numbered 0 0 e) ∙ z) v

  -- ── what a result says ──

  module _ {r : Answer} {new : List ℕ} (x : Fills C A nay n old new r) where
    -- where the checks accept, what comes behind them has the answer's number
    pub behind_number : C accepted ≡ accepted → x.v.number ≡ r.number
    behind_number e = ap (λ (v : Verdict). v.number) (sym (went_on C k (ap (λ (v : Verdict). v.number) e) x.v)) ∙ sym (numbered x.value nay x.says)

    -- where the answer accepts, the checks do, and what is returned and stands in lent memory is what comes behind them
    pub record Found : Type 0 where
      pub checks : C accepted ≡ accepted
      pub zero : x.v.number ≡ 0
      pub value : r.value ≡ x.value
      pub table : new ≡ filled x.s n old

    pub fills_found : r.number ≡ 0 → Found
    fills_found z = record {
      checks = through (ℕ_discrete (C accepted).number 0);
      zero = behind_number (through (ℕ_discrete (C accepted).number 0)) ∙ z;
      value = ap (λ (a : Answer). a.value) x.says ∙ ap (λ (b : Bool). cond b x.value nay) (eq-eqb (C x.v).number 0 at);
      table = x.leaves ∙ changed_new (C x.v) _ old at;
    }
      where
        at : (C x.v).number ≡ 0
        at = sym (numbered x.value nay x.says) ∙ z

        through : Dec ((C accepted).number ≡ 0) → C accepted ≡ accepted
        through (yes h) = accepts k h
        through (no h) = absurd (h (ap (λ (v : Verdict). v.number) (sym (stopped C k h x.v)) ∙ at))

  -- ── one result ──

  -- behind the checks A leaves one verdict and value and, on success, the same numbers
  abbrev pub Single : Type 0
  Single = C accepted ≡ accepted → (v w : Verdict) (b c : ℕ) (s t : ℕ → ℕ) → A v b s → A w c t → (v ≡ w) × (b ≡ c) × (v.number ≡ 0 → (i : ℕ) → i < n → s i ≡ t i)

  module _ (single : Single) (r r' : Answer) (new new' : List ℕ) (x : Fills C A nay n old new r) (y : Fills C A nay n old new' r') where
    -- where the checks refuse, what stands behind them is not looked at
    refused_one : ((C accepted).number ≡ 0 → ⊥) → (r ≡ r') × (new ≡ new')
    refused_one h = (
      x.says ∙ ap (λ (v : Verdict). answer_of v x.value nay) same ∙ answer_no (C y.v) x.value y.value nay not ∙ sym y.says,
      x.leaves ∙ changed_old (C x.v) _ old (λ z. not (ap (λ (v : Verdict). v.number) (sym same) ∙ z)) ∙ sym (changed_old (C y.v) _ old not) ∙ sym y.leaves,
    )
      where
        same : C x.v ≡ C y.v
        same = stopped C k h x.v ∙ sym (stopped C k h y.v)

        not : (C y.v).number ≡ 0 → ⊥
        not z = h (ap (λ (v : Verdict). v.number) (sym (stopped C k h y.v)) ∙ z)

    -- where they accept, it is one
    passed_one : (C accepted).number ≡ 0 → (r ≡ r') × (new ≡ new')
    passed_one z = (
      x.says ∙ ap (λ (v : Verdict). answer_of (C v) x.value nay) one.0 ∙ ap (λ (b : ℕ). answer_of (C y.v) b nay) one.1 ∙ sym y.says,
      x.leaves ∙ ap (λ (v : Verdict). changed v (filled x.s n old) old) (went_on C k z x.v) ∙ go (ℕ_discrete x.v.number 0)
          ∙ ap (λ (v : Verdict). changed v (filled y.s n old) old) (one.0 ∙ sym (went_on C k z y.v)) ∙ sym y.leaves,
    )
      where
        one : (x.v ≡ y.v) × (x.value ≡ y.value) × (x.v.number ≡ 0 → (i : ℕ) → i < n → x.s i ≡ y.s i)
        one = single (accepts k z) x.v y.v x.value y.value x.s y.s (x.behind (accepts k z)) (y.behind (accepts k z))

        go : Dec (x.v.number ≡ 0) → changed x.v (filled x.s n old) old ≡ changed x.v (filled y.s n old) old
        go (yes h) = ap (λ (xs : List ℕ). changed x.v xs old) (filled_same x.s y.s n old (one.2 h))
        go (no h) = changed_old x.v _ old h ∙ sym (changed_old x.v _ old h)

    pub fills_only : (r ≡ r') × (new ≡ new')
    fills_only = go (ℕ_discrete (C accepted).number 0)
      where
        go : Dec ((C accepted).number ≡ 0) → (r ≡ r') × (new ≡ new')
        go (yes z) = passed_one z
        go (no h) = refused_one h
