-- Laws of the repairs and of the answers.
-- Assumes nothing.
use mathlib.Core.Path.{◌≡◌, ◌∙◌}
use mathlib.Core.Logic.{◌⊎◌, inl, inr, ⊎_elim}
use mathlib.Core.Bool.{Bool, true, false, true≢false}
use mathlib.Core.List.{List}
use Prim.Native.Nat.{ℕ}
use Rattle.rules.specs.Plans.{Plan}
use Rattle.states.specs.State.{Search}
use Rattle.states.proofs.Keep.{keeps_dead, plans_back, more_trans}
use Rattle.states.proofs.Count.{pair_falls, job_falls}
use Rattle.states.proofs.Rules as rules
use Rattle.cells.specs.View.{ins, outs, sures, nevers, Prunes, PutsBit, IsIn, IsOut, IsAhead, NotAhead}
use Rattle.cells.proofs.Changes.{new_bit, then}
use Rattle.lent.specs.Lent.{Lent}
use Rattle.leaves.specs.Leaf.{SettledBy, Resolves}
use Rattle.flaws.specs.Flaw.{FreeJob, FreePair}
use Rattle.flaws.specs.declared.Repair.{Repair}
use Rattle.flaws.specs.declared.Repair.TheVariants.{Job, Pair}
use Rattle.search.specs.Search.{FirstRepair, SecondRepair, Tries}

-- ── repairs ──

module _ {s r : List ℕ} {x : ℕ} (f : FreeJob s x) where
  pub takes_job : PutsBit (IsIn x) ins x s r → Tries (FirstRepair (Job x)) s r
  takes_job d = record {
    more = d.more;
    fewer = job_falls d.more x f.below f.free (inl (new_bit ins x d));
    keep = λ P Q g h. d.fits P Q g h;
  }

  pub drops_job : PutsBit (IsOut x) outs x s r → Tries (SecondRepair (Job x)) s r
  drops_job d = record {
    more = d.more;
    fewer = job_falls d.more x f.below f.free (inr (new_bit outs x d));
    keep = λ P Q g h. d.fits P Q g h;
  }

module _ {s r : List ℕ} {x y : ℕ} (f : FreePair s x y) where
  pub takes_pair : {t : List ℕ} → PutsBit (IsIn x) ins x s t → PutsBit (IsAhead x y) (sures y) x t r → Tries (FirstRepair (Pair x y)) s r
  takes_pair d e = record {
    more = more_trans d.more e.more;
    fewer = pair_falls (more_trans d.more e.more) x y f.first f.second f.free (inl (new_bit (sures y) x e));
    keep = λ P Q g h. e.fits P Q (d.fits P Q g h.0) (λ i j. h.1);
  }

  pub drops_pair : PutsBit (NotAhead x y) (nevers y) x s r → Tries (SecondRepair (Pair x y)) s r
  drops_pair d = record {
    more = d.more;
    fewer = pair_falls d.more x y f.first f.second f.free (inr (new_bit (nevers y) x d));
    keep = λ P Q g h. d.fits P Q g (λ i j o. h i o);
  }

-- every plan meets the claim of the first repair or that of the second
repair_cases : {L : List ℕ} (r : Repair) (P : Search) → Lent L P → (Q : Plan) → FirstRepair r P Q ⊎ SecondRepair r P Q
repair_cases (Job x) P l Q = rules.in? P l.listed.wf Q x
repair_cases (Pair x y) P l Q = rules.split P l.listed.wf Q x y

-- ── pruning ──

pub settled_on : {L s t r : List ℕ} {ok : Bool} → Prunes (Lent L) s t → SettledBy L t r ok → SettledBy L s r ok
settled_on p d = record { prunes = then p d.prunes; rest = d.rest }

-- ── answers ──

module _ {L : List ℕ} where
  -- what is so of the pruned state is so of the state
  pub ans_pruned : {s t o n : List ℕ} {r : Bool} → Prunes (Lent L) s t → Resolves (Lent L) t o n r → Resolves (Lent L) s o n r
  ans_pruned p a = record {
    plan = λ e P l. plans_back p.more (a.plan e P l);
    size = a.size;
    none = λ e P l. keeps_dead (p.keeps P l.listed.wf l) (a.none e P l);
    same = a.same;
  }

  module _ (f : Repair) {s t : List ℕ} (d : Tries (FirstRepair f) s t) {o m : List ℕ} {a : Bool} (first : Resolves (Lent L) t o m a) where
    -- the first repair found a plan
    pub ans_first : a ≡ true → Resolves (Lent L) s o m true
    ans_first h = record {
      plan = λ e P l. plans_back d.more (first.plan h P l);
      size = λ e. first.size h;
      none = λ e. absurd (true≢false e);
      same = λ e. absurd (true≢false e);
    }

    -- the first found none, and the second answers
    pub ans_second : {u n : List ℕ} {r : Bool} → a ≡ false → Tries (SecondRepair f) s u → Resolves (Lent L) u m n r → Resolves (Lent L) s o n r
    ans_second h e second = record {
      plan = λ x P l. plans_back e.more (second.plan x P l);
      size = second.size;
      none = λ x P l Q v. ⊎_elim
          (λ y. first.none h P l Q (record { first = v.first; fits = d.keep P Q v.fits y }))
          (λ y. second.none x P l Q (record { first = v.first; fits = e.keep P Q v.fits y }))
          (repair_cases f P l Q);
      same = λ x. second.same x ∙ first.same h;
    }
