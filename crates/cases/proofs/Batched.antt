-- The tables that batches make in the cases, job by job.
-- Assumes nothing.
use mathlib.Core.Path.{◌≡◌, refl, sym, ap, ◌∙◌}
use mathlib.Core.Bool.{Bool, false, ◌||◌}
use mathlib.Core.List.{List, [], ◌∷◌}
use Prim.Native.Nat.{ℕ, zero, suc, ◌<◌}
use native.Mathlib.Omega.{arith}
use lib.Dec.{eqb}
use lib.ListN.{length}
use Rattle.facts.specs.Least.{least, any}
use Rattle.facts.specs.Words.{Word}
use Rattle.facts.proofs.Least.{any_none, any_more}
use Rattle.facts.proofs.Sets.{word_with}
use Rattle.rules.specs.Sums.{sum}
use Rattle.tables.specs.declared.Action.{Action}
use Rattle.tables.specs.Tables.{record_at}
use Rattle.batches.specs.Groups.{house_groups}
use Rattle.batches.specs.Batches.{last_done, JobWith, BatchTable}
use Rattle.batches.proofs.Jobs.{word_none}
use Rattle.batches.proofs.Only.{table_only}
use Rattle.cases.specs.Jobs.{facts, action}
use Rattle.cases.specs.Claims.{MakesTable}

-- a word of listed facts holds the facts of the list
member : List ℕ → ℕ → Bool
member [] q = false
member (p ∷ ps) q = member ps q || eqb q p

facts_word : (l : List ℕ) → Word (member l) (facts l)
unfolding member facts
facts_word [] q = word_none q
facts_word (p ∷ ps) q = word_with (facts ps) p q ∙ ap (λ (b : Bool). b || eqb q p) (facts_word ps q)

job_ok : {needs adds deletes : ℕ → Bool} (n a d : List ℕ) (long : ℕ) → ((p : ℕ) → member n p ≡ needs p) → ((p : ℕ) → member a p ≡ adds p) → ((p : ℕ) → member d p ≡ deletes p)
    → JobWith needs adds deletes long (action n a d long)
job_ok n a d long x y z = record { needed = λ p. facts_word n p ∙ x p; added = λ p. facts_word a p ∙ y p; deleted = λ p. facts_word d p ∙ z p; lasts = refl; free = refl }

-- nothing but this table is one
only_ok : {gs goals : List ℕ} {jobs : List Action} {atoms : ℕ} → BatchTable gs (length jobs) atoms (facts (0 ∷ [])) (facts goals) (record_at jobs) → MakesTable gs jobs atoms goals
only_ok {gs} t = record { table = t; only = λ n a o g job x. table_only gs x t }

-- numbers below 1 and 2
one : (A : ℕ → Type 0) → A 0 → (i : ℕ) → i < 1 → A i
one A a zero l = a
one A a (suc i) l = absurd (omega arith)

two : (A : ℕ → Type 0) → A 0 → A 1 → (i : ℕ) → i < 2 → A i
two A a b zero l = a
two A a b (suc zero) l = b
two A a b (suc (suc i)) l = absurd (omega arith)

-- one of two
any_two : (f : ℕ → Bool) → (f 0 || f 1) ≡ any f 2
unfolding any least
any_two f = sym (any_more f 1 ∙ ap (λ (b : Bool). b || f 1) (any_more f 0))

pub makes_two : MakesTable (1 ∷ 0 ∷ []) (action [] (1 ∷ []) [] 4 ∷ action (1 ∷ 0 ∷ []) (2 ∷ []) (0 ∷ []) 3 ∷ action (2 ∷ []) (0 ∷ []) [] 1 ∷ action [] (3 ∷ []) [] 4 ∷ []) 4 (3 ∷ 2 ∷ [])
unfolding house_groups sum member
makes_two = only_ok (record {
  count = refl;
  facts = refl;
  bay = λ p. facts_word (0 ∷ []) p;
  last = λ p. facts_word (3 ∷ 2 ∷ []) p ∙ any_two (λ b. eqb p (last_done (1 ∷ 0 ∷ []) b));
  batch = two _
      (record {
        stage = two _ (job_ok [] (1 ∷ []) [] 4 (λ p. refl) (λ p. refl) (λ p. refl)) (job_ok (1 ∷ 0 ∷ []) (2 ∷ []) (0 ∷ []) 3 (λ p. refl) (λ p. refl) (λ p. refl));
        clearing = two _ (λ b. absurd b) (λ b. job_ok (2 ∷ []) (0 ∷ []) [] 1 (λ p. refl) (λ p. refl) (λ p. refl));
      })
      (record { stage = one _ (job_ok [] (3 ∷ []) [] 4 (λ p. refl) (λ p. refl) (λ p. refl)); clearing = one _ (λ b. absurd b) });
})

pub makes_none : MakesTable [] [] 1 []
unfolding house_groups sum member
makes_none = only_ok (record {
  count = refl;
  facts = refl;
  bay = λ p. facts_word (0 ∷ []) p;
  last = λ p. facts_word [] p ∙ any_none (λ b. eqb p (last_done [] b)) 0 (λ i l. absurd (omega arith));
  batch = λ b l. absurd (omega arith);
})
