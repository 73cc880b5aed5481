-- The facts from finish to finish, and the tests of two jobs as the code makes them.
-- Assumes nothing.
use mathlib.Core.Path.{◌≡◌, refl, sym, ap, ap₂, ◌∙◌, subst}
use mathlib.Core.Logic.{◌⊎◌, inl, inr}
use mathlib.Core.Bool.{Bool, true, false, not, ◌&&◌}
use Prim.Native.Nat.{ℕ, zero, suc, ◌+◌, ◌-◌, ◌≤◌, ◌<◌, ◌^◌}
use borrow.Author.Tests.{ne_eqb}
use Rattle.std.specs.Prelude.{Option, Some, None, IsSome, is_some, cond}
use native.Mathlib.Numerals.{add-one}
use native.Mathlib.Omega.{arith}
use lib.Dec.{T, ltb, eqb→eq}
use lib.ListN.{get_or}
use mathlib.Core.List.{List}
use Rattle.facts.specs.Facts.{has}
use Rattle.facts.specs.Words.{Word}
use Rattle.facts.specs.Least.{least, any}
use Rattle.facts.specs.Tests.{some_least}
use Rattle.facts.specs.Walks.{Comes}
use Rattle.facts.proofs.Bools.{and_l, and_r, or_at, same}
use Rattle.facts.proofs.Least.{first_same}
use Rattle.facts.proofs.Sets.{has_zero, has_lt}
use Rattle.facts.proofs.Walks.{first_in}
use Rattle.rules.specs.Table.{Problem}
use Rattle.rules.specs.Clashes.{interfere}
use Rattle.rules.specs.Plans.{Plan, starts, In, in_plan, finish, ends, after_if, finishes, holds}
use Rattle.rules.specs.Verdicts.{overlap, unready}
use Rattle.rules.proofs.Time.{still}
use Rattle.tables.specs.declared.Loaded.{Loaded}
use Rattle.tables.specs.declared.Ask.{Ask}
use Rattle.tables.specs.Tables.{problem, job_at}
use Rattle.verdict.specs.Steps.{start_in, FactsAt, Next}

-- ── the facts from finish to finish ──

-- no job of the plan finishes after `from`, up to `till`
abbrev pub Idle : Problem → Plan → ℕ → ℕ → Type 0
Idle P s from till = (i : ℕ) → In P s i → from < finish P s i → finish P s i ≤ till → ⊥

-- where no job finishes, the facts stay as they are
pub unchanged : (P : Problem) (s : Plan) (p t u : ℕ) → t ≤ u → Idle P s t u → holds P s p u ≡ holds P s p t
unfolding holds ends
unchanged P s p t zero l q = let e : t ≡ 0 = omega arith in rw e
unchanged P s p t (suc u) l q = go (or_at t (suc u) l) (λ m. unchanged P s p t u m (λ i k b e. q i k b (omega arith)))
  where
    none : t < suc u → (i : ℕ) → i < P.count → T (ends P s i (suc u)) → ⊥
    none m i b e =
        let at : finish P s i ≡ suc u = eqb→eq _ _ (and_r (in_plan s i) _ e) in
        q i (record { below = b; chosen = and_l (in_plan s i) _ e }) (omega arith) (omega arith)

    go : (t < suc u) ⊎ (t ≡ suc u) → (t ≤ u → holds P s p u ≡ holds P s p t) → holds P s p (suc u) ≡ holds P s p t
    go (inl m) r = still P s p (suc u) P.count (holds P s p u) (none m) ∙ r (omega arith)
    go (inr m) r = rw m

-- so up to the moment before the next finish
pub moved : (P : Problem) (s : Plan) (from till r w : ℕ) → Next P s from till r → FactsAt P s from w → FactsAt P s (r - 1) w
moved P s from till r w n f p =
    let l : from < r = n.later in
    f p ∙ sym (unchanged P s p from (r - 1) (omega arith) (λ i k b e. n.free i k b (omega arith)))

-- and over all finishes of that moment
pub finished : (P : Problem) (s : Plan) (u w v : ℕ) → 1 ≤ u → FactsAt P s (u - 1) w → Word (λ p. finishes P s p u P.count (has w p)) v → FactsAt P s u v
unfolding holds
finished P s zero w v l f g p = absurd (omega arith)
finished P s (suc u) w v l f g p =
    let e : suc u - 1 ≡ u = omega arith in
    g p ∙ ap (finishes P s p (suc u) P.count) (rw e at (f p))

-- one job more, as a loop's counter says it
pub finishes_more : (P : Problem) (s : Plan) (p t i : ℕ) (b : Bool) {e x y : Bool} → y ≡ after_if e (has (P.additions i) p) (has (P.deletions i) p) x
    → e ≡ ends P s i t → x ≡ finishes P s p t i b → y ≡ finishes P s p t (i + 1) b
unfolding finishes
finishes_more P s p t i b h k m = h ∙ ap₂ (λ (now before : Bool). after_if now (has (P.additions i) p) (has (P.deletions i) p) before) k m ∙ rw add-one

-- ── tests ──

-- the tests of an overlap, job by job
pub regroup : (a b x y z : Bool) → ((a && x) && (b && y)) && z ≡ (a && (b && (x && (y && z))))
regroup true true true y z = refl
regroup true true false y z = refl
regroup true false true y z = refl
regroup true false false y z = refl
regroup false b x y z = refl

-- the overlap of two jobs of a table: each ends, with the gap behind it, after the other's start, and they interfere
pub overlap_of : (l : Loaded) (q : Ask) (s : List ℕ) (i j : ℕ) {g : ℕ} → g ≡ (problem l q).gap
    → (((start_in (get_or s i 0) && ltb (get_or s j 0) (get_or s i 0 + (job_at l i).duration + g)) && (start_in (get_or s j 0) && ltb (get_or s i 0) (get_or s j 0 + (job_at l j).duration + g))) && interfere (problem l q) i j)
    ≡ overlap (problem l q) (starts s) i j
unfolding overlap in_plan
overlap_of l q s i j {g} e =
    regroup (start_in (get_or s i 0)) (start_in (get_or s j 0)) (ltb (get_or s j 0) (get_or s i 0 + (job_at l i).duration + g)) (ltb (get_or s i 0) (get_or s j 0 + (job_at l j).duration + g)) (interfere (problem l q) i j)
    ∙ ap (λ (x : ℕ). start_in (get_or s i 0) && (start_in (get_or s j 0) && (ltb (get_or s j 0) (get_or s i 0 + (job_at l i).duration + x) && (ltb (get_or s i 0) (get_or s j 0 + (job_at l j).duration + x) && interfere (problem l q) i j)))) e

-- ── the first that passes ──

-- there is a first where one passes
pub some_first : (f : ℕ → Bool) (n : ℕ) → is_some (some_least f n) ≡ any f n
unfolding some_least
some_first f n = go (any f n)
  where
    go : (b : Bool) → is_some (cond b (Some (least f n)) None) ≡ b
    go true = refl
    go false = refl

pub is_first : (f : ℕ → Bool) (n : ℕ) {r : Option ℕ} → T (any f n) → r ≡ some_least f n → IsSome r
is_first f n {r = None} h e = absurd (subst T (sym (ap is_some e ∙ some_first f n)) h)
is_first f n {r = Some i} h e = refl

pub lacking_is : (have want w v : ℕ) {r : Option ℕ} → w < 2 ^ 64 → Word (λ p. has want p && not (has have p)) w → Comes w r v → r ≡ some_least (λ p. has want p && not (has have p)) 64
lacking_is have want w v {r} l g e = first_in w r v l e ∙ first_same (has w) _ 64 (λ p _. g p)

-- what is wanted and not in the word of facts at a time is what is wanted and does not hold then
pub lacking_same : (f : ℕ → Bool) (want have : ℕ) → Word f have → some_least (λ p. has want p && not (has have p)) 64 ≡ some_least (λ p. has want p && not (f p)) 64
lacking_same f want have h = first_same _ _ 64 (λ p l. ap (λ (b : Bool). has want p && not b) (h p))

-- a job in the plan is not ready where a condition is not among the facts the gap before its start
pub unready_of : (l : Loaded) (q : Ask) (s : List ℕ) (i w : ℕ) (r : Option ℕ) {t : ℕ} → (get_or s i 0 ≡ 65535 → ⊥) → t ≡ get_or s i 0 - (problem l q).gap → FactsAt (problem l q) (starts s) t w
    → r ≡ some_least (λ p. has (job_at l i).conditions p && not (has w p)) 64 → is_some r ≡ unready (problem l q) (starts s) i
unfolding unready in_plan
unready_of l q s i w r n m f e =
    simp (ne_eqb _ _ n)
    (ap is_some
    (e ∙ lacking_same (λ p. holds (problem l q) (starts s) p (get_or s i 0 - (problem l q).gap)) (job_at l i).conditions w (subst (λ (u : ℕ). FactsAt (problem l q) (starts s) u w) m f))
    ∙ some_first _ 64)
