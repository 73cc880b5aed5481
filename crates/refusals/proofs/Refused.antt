-- A list of checks accepts exactly where no check refuses.
-- Assumes nothing.
use mathlib.Core.Path.{◌≡◌, refl, sym, ◌∙◌, ap, subst}
use mathlib.Core.Logic.{◌⊎◌, inl, inr, ◌≢◌, ⊎_elim}
use mathlib.Core.Bool.{Bool, true, false, cond}
use Prim.Native.Nat.{ℕ, ◌≤◌, ◌<◌}
use lib.Dec.{T}
use Rattle.facts.specs.Least.{least, any}
use Rattle.facts.specs.Tests.{some_least}
use Rattle.std.specs.Prelude.{Option, Some, None}
use native.Mathlib.Nat.{le_refl}
use Rattle.facts.proofs.Bools.{chosen, unchosen}
use Rattle.facts.proofs.Least.{found_any, found_none, first_some, first_none}
use Rattle.refusals.specs.Refusals.{Verdict, accepted, refused, refused_for, refuse_if, refuse_for, refuse_at, Ruled}

-- a check that does not pass goes on
pub if_pass : (b : Bool) (n k : ℕ) (v : Verdict) → (T b → ⊥) → refuse_if b n k v ≡ v
unfolding refuse_if
if_pass true n k v q = absurd (q tt)
if_pass false n k v q = refl

pub if_hit : (b : Bool) (n k : ℕ) (v : Verdict) → T b → refuse_if b n k v ≡ refused n k
unfolding refuse_if
if_hit true n k v q = refl
if_hit false n k v q = absurd q

-- the same with a second number
pub for_pass : (f : ℕ → Bool) (x : ℕ → ℕ) (m n : ℕ) (v : Verdict) → (T (any f m) → ⊥) → refuse_for f x m n v ≡ v
unfolding refuse_for
for_pass f x m n v q = unchosen (any f m) _ v q

-- by the place that code found
pub for_hit : (f : ℕ → Bool) (x : ℕ → ℕ) (m n : ℕ) (v : Verdict) {r : ℕ} → r ≡ least f m → r < m → refuse_for f x m n v ≡ refused_for n (x r) r
unfolding refuse_for
for_hit f x m n v {r} e l = chosen (any f m) _ v (found_any f e l) ∙ ap (λ (k : ℕ). refused_for n (x k) k) (sym e)

pub for_miss : (f : ℕ → Bool) (x : ℕ → ℕ) (m n : ℕ) (v : Verdict) {r : ℕ} → r ≡ least f m → m ≤ r → refuse_for f x m n v ≡ v
for_miss f x m n v e l = for_pass f x m n v (found_none f e l)

-- with the second number 0
pub at_pass : (f : ℕ → Bool) (m n : ℕ) (v : Verdict) → (T (any f m) → ⊥) → refuse_at f m n v ≡ v
unfolding refuse_at
at_pass f m n v q = for_pass f (λ k. 0) m n v q

pub at_hit : (f : ℕ → Bool) (m n : ℕ) (v : Verdict) {r : ℕ} → r ≡ least f m → r < m → refuse_at f m n v ≡ refused n r
unfolding refuse_at
at_hit f m n v e l = for_hit f (λ k. 0) m n v e l

pub at_miss : (f : ℕ → Bool) (m n : ℕ) (v : Verdict) {r : ℕ} → r ≡ least f m → m ≤ r → refuse_at f m n v ≡ v
unfolding refuse_at
at_miss f m n v e l = for_miss f (λ k. 0) m n v e l

-- by the first place that code found, if there is one
pub for_some : (f : ℕ → Bool) (x : ℕ → ℕ) (m n : ℕ) (v : Verdict) {r : Option ℕ} {i : ℕ} → r ≡ some_least f m → r ≡ Some i → refuse_for f x m n v ≡ refused_for n (x i) i
for_some f x m n v e h = let k = first_some f m e h in for_hit f x m n v k.0 k.1

pub for_none : (f : ℕ → Bool) (x : ℕ → ℕ) (m n : ℕ) (v : Verdict) {r : Option ℕ} → r ≡ some_least f m → r ≡ None → refuse_for f x m n v ≡ v
for_none f x m n v e h = for_miss f x m n v (first_none f m e h) (le_refl m)

pub at_some : (f : ℕ → Bool) (m n : ℕ) (v : Verdict) {r : Option ℕ} {i : ℕ} → r ≡ some_least f m → r ≡ Some i → refuse_at f m n v ≡ refused n i
unfolding refuse_at
at_some f m n v e h = for_some f (λ k. 0) m n v e h

pub at_none : (f : ℕ → Bool) (m n : ℕ) (v : Verdict) {r : Option ℕ} → r ≡ some_least f m → r ≡ None → refuse_at f m n v ≡ v
unfolding refuse_at
at_none f m n v e h = for_none f (λ k. 0) m n v e h

-- where the list accepts, this check passed and the rest accepts
pub if_zero : (b : Bool) (n k : ℕ) (v : Verdict) → n ≢ 0 → refuse_if b n k v ≡ accepted → (T b → ⊥) × (v ≡ accepted)
unfolding refuse_if
if_zero true n k v ne h = absurd (ne (ap (λ (w : Verdict). w.number) h))
if_zero false n k v ne h = (λ x. x, h)

pub for_zero : (f : ℕ → Bool) (x : ℕ → ℕ) (m n : ℕ) (v : Verdict) → n ≢ 0 → refuse_for f x m n v ≡ accepted → (T (any f m) → ⊥) × (v ≡ accepted)
unfolding refuse_for
for_zero f x m n v ne h = go (any f m) h
  where
    go : (b : Bool) → cond b (refused_for n (x (least f m)) (least f m)) v ≡ accepted → (T b → ⊥) × (v ≡ accepted)
    go true h = absurd (ne (ap (λ (w : Verdict). w.number) h))
    go false h = (λ x. x, h)

pub at_zero : (f : ℕ → Bool) (m n : ℕ) (v : Verdict) → n ≢ 0 → refuse_at f m n v ≡ accepted → (T (any f m) → ⊥) × (v ≡ accepted)
unfolding refuse_at
at_zero f m n v ne h = for_zero f (λ k. 0) m n v ne h

-- a number that is not a check's own is said by the rest, and the check did not refuse
pub if_other : (b : Bool) (n k : ℕ) (v : Verdict) {m : ℕ} → n ≢ m → (refuse_if b n k v).number ≡ m → (T b → ⊥) × (v.number ≡ m)
unfolding refuse_if
if_other true n k v ne h = absurd (ne h)
if_other false n k v ne h = (λ x. x, h)

pub at_other : (f : ℕ → Bool) (l n : ℕ) (v : Verdict) {m : ℕ} → n ≢ m → (refuse_at f l n v).number ≡ m → v.number ≡ m
unfolding refuse_at refuse_for
at_other f l n v {m} ne h = go (any f l) h
  where
    go : (b : Bool) → (cond b (refused_for n 0 (least f l)) v).number ≡ m → v.number ≡ m
    go true e = absurd (ne e)
    go false e = e

-- ── one list behind another ──

-- of all refusals only 12 has a second number
abbrev pub Second : Verdict → Type 0
Second v = v.number ≢ 12 → v.second ≡ 0

-- a list of checks stops with one refusal whatever comes behind it, or goes on
abbrev pub Checks : (Verdict → Verdict) → Type 0
Checks C = ((v : Verdict) × ((v.number ≢ 0) × Second v) × ((next : Verdict) → C next ≡ v)) ⊎ ((next : Verdict) → C next ≡ next)

pub if_checks : (b : Bool) (n k : ℕ) → n ≢ 0 → Checks (refuse_if b n k)
unfolding refuse_if
if_checks true n k ne = inl (refused n k, (ne, λ z. refl), λ next. refl)
if_checks false n k ne = inr (λ next. refl)

pub for_checks : (f : ℕ → Bool) (x : ℕ → ℕ) (m n : ℕ) → n ≢ 0 → ((k : ℕ) → n ≢ 12 → x k ≡ 0) → Checks (refuse_for f x m n)
unfolding refuse_for
for_checks f x m n ne z = go (any f m)
  where
    go : (b : Bool) → Checks (λ next. cond b (refused_for n (x (least f m)) (least f m)) next)
    go true = inl (refused_for n (x (least f m)) (least f m), (ne, z (least f m)), λ next. refl)
    go false = inr (λ next. refl)

pub at_checks : (f : ℕ → Bool) (m n : ℕ) → n ≢ 0 → Checks (refuse_at f m n)
unfolding refuse_at
at_checks f m n ne = for_checks f (λ k. 0) m n ne (λ k z. refl)

-- one check alone
pub if_second : (b : Bool) (n k : ℕ) (v : Verdict) → Second v → Second (refuse_if b n k v)
unfolding refuse_if
if_second true n k v h = λ z. refl
if_second false n k v h = h

-- so what a list of checks says has a second number only if it is 12, where that is so of what comes behind
pub seconds : (C : Verdict → Verdict) → Checks C → (next : Verdict) → Second next → Second (C next)
seconds C (inl (v, k, e)) next h = subst Second (sym (e next)) k.1
seconds C (inr e) next h = subst Second (sym (e next)) h

pub then_checks : {C D : Verdict → Verdict} → Checks C → Checks D → Checks (λ v. C (D v))
then_checks {C} {D} (inl (v, ne, e)) d = inl (v, ne, λ next. e (D next))
then_checks {C} {D} (inr e) (inl (v, ne, f)) = inl (v, ne, λ next. e (D next) ∙ f next)
then_checks {C} {D} (inr e) (inr f) = inr (λ next. e (D next) ∙ f next)

-- where it refuses, it refuses the same whatever comes behind
pub stopped : (C : Verdict → Verdict) → Checks C → ((C accepted).number ≡ 0 → ⊥) → (next : Verdict) → C next ≡ C accepted
stopped C (inl (v, ne, e)) n next = e next ∙ sym (e accepted)
stopped C (inr e) n next = absurd (n (ap (λ (x : Verdict). x.number) (e accepted)))

-- where it does not, it accepts, and goes on
pub went_on : (C : Verdict → Verdict) → Checks C → (C accepted).number ≡ 0 → (next : Verdict) → C next ≡ next
went_on C (inl (v, k, e)) z next = absurd (k.0 (ap (λ (x : Verdict). x.number) (sym (e accepted)) ∙ z))
went_on C (inr e) z next = e next

-- one that accepts with something behind it goes on, whatever comes behind it
pub goes_on : (C : Verdict → Verdict) → Checks C → (x : Verdict) → C x ≡ accepted → (v : Verdict) → C v ≡ v
goes_on C (inl (u, k, e)) x h v = absurd (k.0 (ap (λ (y : Verdict). y.number) (sym (e x) ∙ h)))
goes_on C (inr e) x h v = e v

-- so both accept
pub both : {C : Verdict → Verdict} (v : Verdict) → Checks C → C v ≡ accepted → (C accepted ≡ accepted) × (v ≡ accepted)
both {C} v k h = (goes_on C k v h accepted, sym (goes_on C k v h v) ∙ h)

-- an answer with number 0 has what was asked for, and one with the other number has not
pub ruled_yes : {A N : Type 0} (n : ℕ) (v : Verdict) → n ≢ 0 → Ruled v A n N → v.number ≡ 0 → (v ≡ accepted) × A
ruled_yes n v ne (inl a) z = a
ruled_yes n v ne (inr (e, k)) z = absurd (ne (ap (λ (x : Verdict). x.number) (sym e) ∙ z))

pub ruled_no : {A N : Type 0} (n : ℕ) (v : Verdict) → n ≢ 0 → Ruled v A n N → v.number ≡ n → N
ruled_no n v ne (inl (e, a)) z = absurd (ne (sym z ∙ ap (λ (x : Verdict). x.number) e))
ruled_no n v ne (inr (e, k)) z = k

-- two answers to one question: they say the same, and where they accept both hold
pub ruled_only : {A B N M : Type 0} (n : ℕ) (v w : Verdict) → n ≢ 0 → (A → M → ⊥) → (B → N → ⊥) → Ruled v A n N → Ruled w B n M
    → (v ≡ w) × ((A × B) ⊎ ((N × M) × (v ≡ accepted → ⊥)))
ruled_only n v w ne f g (inl (e, a)) (inl (d, b)) = (e ∙ sym d, inl (a, b))
ruled_only n v w ne f g (inl (e, a)) (inr (d, m)) = absurd (f a m)
ruled_only n v w ne f g (inr (e, k)) (inl (d, b)) = absurd (g b k)
ruled_only n v w ne f g (inr (e, k)) (inr (d, m)) = (e ∙ sym d, inr ((k, m), λ h. ne (ap (λ (x : Verdict). x.number) (sym e ∙ h))))

-- so where one thing follows of both accepted answers, it follows of every accepted answer
pub ruled_same : {A B N M C : Type 0} (n : ℕ) (v w : Verdict) → n ≢ 0 → (A → M → ⊥) → (B → N → ⊥) → (A → B → C) → Ruled v A n N → Ruled w B n M
    → (v ≡ w) × (v ≡ accepted → C)
ruled_same n v w ne f g h x y =
    let r = ruled_only n v w ne f g x y in
    (r.0, λ e. ⊎_elim (λ b. h b.0 b.1) (λ m. absurd (m.1 e)) r.1)
