-- Lent memory that is filled place by place, and the table by value, job by job.
-- Assumes nothing.
use mathlib.Core.Path.{◌≡◌, refl, sym, ap, ap₂, ◌∙◌}
use mathlib.Core.Logic.{◌⊎◌, inl, inr}
use mathlib.Core.List.{List, ◌++◌}
use Prim.Native.Nat.{ℕ, zero, suc, ◌+◌, ◌≤◌, ◌<◌}
use native.Mathlib.Omega.{arith}
use native.Mathlib.Numerals.{add-one}
use lib.ListN.{length, get_or, set, take, drop, length-set}
use lib.Seq.{get_or-set_same, get_or-set_other, length-take-le, take-suc, drop-cons, append_snoc, set_at}
use Rattle.facts.proofs.Bools.{below_suc}
use Rattle.tables.specs.declared.Action.{Action}
use Rattle.tables.specs.Tables.{filled, tabled, no_jobs}
use Rattle.tables.specs.Steps.{with_job}

pub length_filled : {A : Type 0} (f : ℕ → A) (n : ℕ) (xs : List A) → length (filled f n xs) ≡ length xs
unfolding filled
length_filled f zero xs = refl
length_filled f (suc k) xs = length-set (filled f k xs) k (f k) ∙ length_filled f k xs

-- no place yet, and one place more
pub filled_none : {A : Type 0} (f : ℕ → A) (xs : List A) → xs ≡ filled f 0 xs
unfolding filled
filled_none f xs = refl

pub filled_next : {A : Type 0} (f : ℕ → A) (k : ℕ) (xs : List A) → set (filled f k xs) k (f k) ≡ filled f (suc k) xs
unfolding filled
filled_next f k xs = refl

-- as a loop's counter says it
pub filled_more : {A : Type 0} (f : ℕ → A) (k : ℕ) (xs : List A) → set (filled f k xs) k (f k) ≡ filled f (k + 1) xs
filled_more f k xs = filled_next f k xs ∙ ap (λ (n : ℕ). filled f n xs) (sym (add-one k))

-- what is filled depends on the first n entries alone
pub filled_same : {A : Type 0} (f g : ℕ → A) (n : ℕ) (xs : List A) → ((i : ℕ) → i < n → f i ≡ g i) → filled f n xs ≡ filled g n xs
unfolding filled
filled_same f g zero xs h = refl
filled_same {A} f g (suc k) xs h = ap₂ (λ (ys : List A) (v : A). set ys k v) (filled_same f g k xs (λ i l. h i (omega arith))) (h k (omega arith))

pub filled_at : {A : Type 0} (f : ℕ → A) (n : ℕ) (xs : List A) (i : ℕ) (d : A) → i < n → i < length xs → get_or (filled f n xs) i d ≡ f i
unfolding filled
filled_at f zero xs i d l m = absurd (omega arith)
filled_at f (suc k) xs i d l m = go (below_suc i k l) (λ h. filled_at f k xs i d h m)
  where
    go : (i < k) ⊎ (i ≡ k) → (i < k → get_or (filled f k xs) i d ≡ f i) → get_or (set (filled f k xs) k (f k)) i d ≡ f i
    go (inl h) r = get_or-set_other (filled f k xs) k i (f k) d (λ e. omega arith) ∙ r h
    go (inr e) r = rw e (get_or-set_same (filled f k xs) k (f k) d (omega (arith, length_filled f k xs)))

pub filled_rest : {A : Type 0} (f : ℕ → A) (n : ℕ) (xs : List A) (i : ℕ) (d : A) → n ≤ i → get_or (filled f n xs) i d ≡ get_or xs i d
unfolding filled
filled_rest f zero xs i d l = refl
filled_rest f (suc k) xs i d l = get_or-set_other (filled f k xs) k i (f k) d (λ e. omega arith) ∙ filled_rest f k xs i d (omega arith)

-- ── a table by value, job by job ──

pub none_tabled : (f : ℕ → Action) (lent : ℕ) → no_jobs lent ≡ tabled f 0 lent
unfolding filled
none_tabled f lent = refl

pub one_tabled : (f : ℕ → Action) (lent i : ℕ) → with_job (tabled f i lent) i (f i) ≡ tabled f (suc i) lent
unfolding filled
one_tabled f lent i = refl

-- n places over which the first n of a list are copied are filled with them
pub filled_copy : {A : Type 0} (ts xs : List A) (d : A) (n : ℕ) → n ≤ length ts → n ≤ length xs → take n ts ++ drop n xs ≡ filled (λ i. get_or ts i d) n xs
unfolding filled
filled_copy ts xs d zero l m = refl
filled_copy {A} ts xs d (suc k) l m =
    let v = get_or ts k d in
    ap (λ (t : List A). t ++ drop (suc k) xs) (take-suc ts k d l)
    ∙ append_snoc (take k ts) v (drop (suc k) xs)
    ∙ sym (set_at (take k ts) (get_or xs k d) (drop (suc k) xs) v k (length-take-le k ts (omega arith)))
    ∙ ap (λ (t : List A). set (take k ts ++ t) k v) (sym (drop-cons xs k d m))
    ∙ ap (λ (t : List A). set t k v) (filled_copy ts xs d k (omega arith) (omega arith))
