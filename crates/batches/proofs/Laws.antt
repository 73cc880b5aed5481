-- What is so of every house group, and of the sums that number jobs and facts.
-- Assumes nothing.
use mathlib.Core.Path.{◌≡◌, refl, sym, ap, ◌∙◌, subst}
use mathlib.Core.Logic.{⊎_elim}
use mathlib.Core.Bool.{Bool, true, false, ◌&&◌, cond}
use mathlib.Core.List.{List, [], ◌∷◌}
use Rattle.std.specs.List.{sum_by}
use Rattle.std.proofs.Common.{Bor, take_all}
use Rattle.std.proofs.lemmas.List.Sums.{sum_by_more}
use Prim.Native.Nat.{ℕ, zero, suc, ◌+◌, ◌-◌, ◌*◌, ◌≤◌, ◌<◌}
use native.Mathlib.Nat.{add_comm}
use native.Mathlib.Numerals.{add-one}
use native.Mathlib.Omega.{arith}
use native.Mathlib.Decide.{dec_lt}
use lib.Dec.{T, leb, leb→le}
use lib.ListN.{length, get_or, get_or-map, take}
use Rattle.facts.proofs.Bools.{chosen, and_l, and_r, or_at}
use Rattle.rules.specs.Sums.{sum}
use Rattle.rules.proofs.Sums.{sum_le, sum_of}
use Rattle.batches.specs.declared.Stage.{Stage}
use Rattle.batches.specs.Groups.{bench_stage, house_groups}
use Rattle.batches.specs.Batches.{group_stages, batch_stages, stage_at, jobs_for, jobs_up_to, first_job, first_done}
use Rattle.batches.specs.Steps.{AllKnown}

-- ── a test that every entry of a list passes ──

all : {A : Type 0} → (A → Bool) → List A → Bool
all f [] = true
all f (x ∷ xs) = f x && all f xs

all_at : {A : Type 0} (f : A → Bool) (xs : List A) (d : A) (i : ℕ) → T (all f xs) → i < length xs → T (f (get_or xs i d))
unfolding all
all_at f [] d i h l = absurd (omega arith)
all_at f (x ∷ xs) d zero h l = and_l (f x) (all f xs) h
all_at f (x ∷ xs) d (suc i) h l = all_at f xs d i (and_r (f x) (all f xs) h) (omega arith)

-- ── the groups ──

fine : Stage → Bool
fine s = leb 1 s.duration && leb s.duration 960

fair : List Stage → Bool
fair ss = leb 1 (length ss) && (leb (length ss) 6 && all fine ss)

-- what is so of a group: one to six stages, each with a duration that a job may have
pub record Fair (ss : List Stage) : Type 0 where
  pub some : 1 ≤ length ss
  pub few : length ss ≤ 6
  pub long : (i : ℕ) → i < length ss → (1 ≤ (stage_at ss i).duration) × ((stage_at ss i).duration ≤ 960)

every_fair : T (all fair house_groups)
unfolding house_groups all fair fine
every_fair = tt

-- there are twelve
pub known_group : (g : ℕ) → g < 12 → g < length house_groups
unfolding house_groups
known_group g l = l

pub group_fair : (g : ℕ) → g < 12 → Fair (group_stages g)
unfolding fair fine
group_fair g l =
    let ss = group_stages g in
    let h : T (fair ss) = all_at fair house_groups [] g every_fair (known_group g l) in
    let k : T (leb (length ss) 6 && all fine ss) = and_r (leb 1 (length ss)) _ h in
    record {
      some = leb→le 1 (length ss) (and_l (leb 1 (length ss)) _ h);
      few = leb→le (length ss) 6 (and_l (leb (length ss) 6) _ k);
      long = λ i m.
          let s = stage_at ss i in
          let f : T (fine s) = all_at fine ss (bench_stage 0) i (and_r (leb (length ss) 6) _ k) m in
          (leb→le 1 s.duration (and_l (leb 1 s.duration) _ f), leb→le s.duration 960 (and_r (leb 1 s.duration) _ f));
    }

-- of the twelve lists that code points at, the list at g
pub pointed : (a b c d e f h i j k l m none : Bor (List Stage)) (g : ℕ) → (get_or (a ∷ b ∷ c ∷ d ∷ e ∷ f ∷ h ∷ i ∷ j ∷ k ∷ l ∷ m ∷ []) g none).now ≡ get_or (a.now ∷ b.now ∷ c.now ∷ d.now ∷ e.now ∷ f.now ∷ h.now ∷ i.now ∷ j.now ∷ k.now ∷ l.now ∷ m.now ∷ []) g none.now
pointed a b c d e f h i j k l m none g = sym (get_or-map (λ (x : Bor (List Stage)). x.now) (a ∷ b ∷ c ∷ d ∷ e ∷ f ∷ h ∷ i ∷ j ∷ k ∷ l ∷ m ∷ []) g none)

-- ── sums ──

pub sum_none : (f : ℕ → ℕ) → sum f 0 ≡ 0
unfolding sum
sum_none f = refl

pub sum_next : (f : ℕ → ℕ) (n : ℕ) → sum f (n + 1) ≡ sum f n + f n
unfolding sum
sum_next f n = ap (sum f) (add-one n) ∙ add_comm (f n) (sum f n)

-- the sum over a list is that over its places
sum_taken : {A : Type 0} (f : A → ℕ) (xs : List A) (d : A) (n : ℕ) → n ≤ length xs → sum_by f (take n xs) ≡ sum (λ j. f (get_or xs j d)) n
sum_taken f xs d zero l = sym (sum_none (λ j. f (get_or xs j d)))
sum_taken f xs d (suc n) l =
    let g : ℕ → ℕ = λ j. f (get_or xs j d) in
    subst (λ (m : ℕ). sum_by f (take m xs) ≡ sum g m) (add-one n) (sum_by_more f xs n d (omega arith) ∙ ap (λ (m : ℕ). m + g n) (sum_taken f xs d n (omega arith)) ∙ sym (sum_next g n))

pub sum_by_place : {A : Type 0} (f : A → ℕ) (xs : List A) (d : A) → sum_by f xs ≡ sum (λ j. f (get_or xs j d)) (length xs)
sum_by_place f xs d = ap (sum_by f) (sym (take_all (length xs) xs (omega arith))) ∙ sum_taken f xs d (length xs) (omega arith)

pub sum_mono : (f : ℕ → ℕ) (m n : ℕ) → m ≤ n → sum f m ≤ sum f n
unfolding sum
sum_mono f m zero l = let e : m ≡ 0 = omega arith in rw e (omega arith)
sum_mono f m (suc n) l = ⊎_elim (λ h. let r : sum f m ≤ sum f n = sum_mono f m n (omega arith) in omega arith) (λ e. rw e (omega arith)) (or_at m (suc n) l)

pub sum_at : (f : ℕ → ℕ) (m n : ℕ) → m < n → sum f m + f m ≤ sum f n
sum_at f m n l = subst (λ (x : ℕ). x ≤ sum f n) (sum_next f m) (sum_mono f (m + 1) n (omega arith))

-- ── how large the numbers get ──

pub jobs_for_le : (s : Stage) → (1 ≤ jobs_for s) × (jobs_for s ≤ 2)
jobs_for_le s = go s.bay
  where
    go : (b : Bool) → (1 ≤ cond b 2 1) × (cond b 2 1 ≤ 2)
    go true = (omega arith, omega arith)
    go false = (omega arith, omega arith)

pub jobs_for_bay : (s : Stage) → T s.bay → jobs_for s ≡ 2
jobs_for_bay s h = chosen s.bay 2 1 h

pub up_to_le : (ss : List Stage) (i : ℕ) → jobs_up_to ss i ≤ i * 2
up_to_le ss i = omega (arith, sum_le (λ j. jobs_for (stage_at ss j)) (λ j. 2) i (λ j l. (jobs_for_le (stage_at ss j)).1), sum_of 2 i)

module _ (gs : List ℕ) (known : AllKnown gs) (b : ℕ) (l : b ≤ length gs) where
  pub first_job_le : first_job gs b ≤ b * 12
  first_job_le =
      omega (
        arith,
        sum_of 12 b,
        sum_le (λ c. jobs_up_to (batch_stages gs c) (length (batch_stages gs c))) (λ c. 12) b
            (λ c m. omega (arith, up_to_le (batch_stages gs c) (length (batch_stages gs c)), (group_fair (get_or gs c 0) (known c (omega arith))).few)),
      )

  pub first_done_le : first_done gs b ≤ 1 + b * 6
  first_done_le = omega (arith, sum_of 6 b, sum_le (λ c. length (batch_stages gs c)) (λ c. 6) b (λ c m. (group_fair (get_or gs c 0) (known c (omega arith))).few))

-- ── parts of a sum ──

-- a number below the sum stands in exactly one part of it
abbrev pub Part : (f : ℕ → ℕ) (n k c r : ℕ) → Type 0
Part f n k c r = (c < n) × (r < f c) × (k ≡ sum f c + r)

pub part_of : (f : ℕ → ℕ) (n k : ℕ) → k < sum f n → (c : ℕ) × (r : ℕ) × Part f n k c r
unfolding sum
part_of f zero k l = absurd (omega arith)
part_of f (suc n) k l = go (dec_lt k (sum f n)) (part_of f n k)
  where
    go : Dec (k < sum f n) → (k < sum f n → (c : ℕ) × (r : ℕ) × Part f n k c r) → (c : ℕ) × (r : ℕ) × Part f (suc n) k c r
    go (yes h) y = let z = y h in (z.0, z.1, (omega (arith, z.2.0), z.2.1, z.2.2))
    go (no h) y = (n, k - sum f n, (omega arith, omega arith, omega arith))

pub part_only : (f : ℕ → ℕ) (n k c r d t : ℕ) → Part f n k c r → Part f n k d t → (c ≡ d) × (r ≡ t)
part_only f n k c r d t (cn, rc, e) (dn, td, h) = go (dec_lt c d) (dec_lt d c)
  where
    go : Dec (c < d) → Dec (d < c) → (c ≡ d) × (r ≡ t)
    go (yes l) m = absurd (omega (arith, sum_at f c d l))
    go (no l) (yes m) = absurd (omega (arith, sum_at f d c m))
    go (no l) (no m) = let g : c ≡ d = omega arith in (g, let i : sum f c ≡ sum f d = ap (sum f) g in omega arith)
