-- The steps of a chain: the jobs that fit, the way back, and the list turned round.
-- Assumes nothing.
use mathlib.Core.Path.{◌≡◌, refl, sym, ap, ap₂, ◌∙◌, subst}
use mathlib.Core.Logic.{◌⊎◌, inl, inr, ◌≢◌}
use mathlib.Core.Bool.{Bool, ◌&&◌, ◌||◌}
use mathlib.Core.List.{List, [], ◌∷◌, ◌++◌, append_assoc, append-nil}
use Prim.Native.Nat.{ℕ, zero, suc, ◌+◌, ◌-◌, ◌≤◌, ◌<◌}
use native.Mathlib.Omega.{arith}
use lib.Dec.{T, eqb, eqb→eq}
use lib.ListN.{length, get_or, set, length-set, length-append}
use lib.Seq.{get_or-set_same, get_or-set_other}
use Rattle.facts.specs.Facts.{has}
use Rattle.facts.specs.Least.{least, any}
use Rattle.facts.specs.Words.{Word}
use Rattle.facts.proofs.Bools.{and_l, and_r, and_of, or_cases, or_l, or_r, same, passes, eqb_of}
use Rattle.facts.proofs.Sets.{has_zero}
use Rattle.facts.proofs.Least.{lowest, least_hit, least_same, any_at, any_more, found}
use Rattle.rules.specs.Plans.{Plan}
use Rattle.rules.specs.Reasons.{fits_before, Chain, released, pushed}
use Rattle.rules.proofs.Settle.{Closed}
use Rattle.rules.proofs.Chained.{before, some_before, before_in, chain_exists, chain_count, chain_places}
use Rattle.tables.specs.declared.Loaded.{Loaded}
use Rattle.tables.specs.declared.Ask.{Ask}
use Rattle.tables.specs.Tables.{problem}
use Rattle.times.specs.Times.{pair_first, pair_second, wanted}
use Rattle.reasons.specs.Steps.{Explainable, backwards}

-- ── the jobs that fit ──

-- the test of a pair, by numbers that are the same
pub sum_test : (b j : ℕ) {x x' w w' d d' g g' : ℕ} → b ≡ j → x ≡ x' → w ≡ w' → d ≡ d' → g ≡ g' → eqb x (w + d + g) ≡ (eqb b j && eqb x' (w' + d' + g'))
sum_test b j {x} {x'} {w} {w'} {d} {d'} {g} {g'} e p q r s = rw (p, q, r, s) (ap (λ (t : Bool). t && eqb x' (w' + d' + g')) (passes (eqb b j) (eqb_of e)))

-- no pair yet
pub pair_none : (first second : ℕ → ℕ) (fits : ℕ → Bool) (j : ℕ) → Word (λ a. any (λ i. eqb (first i) a && eqb (second i) j) 0 && fits a) 0
pair_none first second fits j a = same (has 0 a) _ (λ x. absurd (has_zero a x))
    (λ x. (let r = any_at (λ i. eqb (first i) a && eqb (second i) j) 0 (and_l (any (λ i. eqb (first i) a && eqb (second i) j) 0) _ x) in absurd (omega (arith, r.1))))

-- one pair more: of the first jobs of pairs with j as second, the word has those that pass the test
pair_more : (first second : ℕ → ℕ) (fits : ℕ → Bool) (j k w v : ℕ) {y : Bool} → Word (λ a. any (λ i. eqb (first i) a && eqb (second i) j) k && fits a) w
    → y ≡ (eqb (second k) j && fits (first k)) → Word (λ a. has w a || (y && eqb a (first k))) v → Word (λ a. any (λ i. eqb (first i) a && eqb (second i) j) (k + 1) && fits a) v
pair_more first second fits j k w v {y} f e h a =
    h a ∙ ap₂ (λ (x z : Bool). x || (z && eqb a (first k))) (f a) e ∙ same _ _ (λ x. up (or_cases (old && fits a) _ x)) down ∙ ap (λ (b : Bool). b && fits a) (sym (any_more (λ i. eqb (first i) a && eqb (second i) j) k))
  where
    old : Bool
    old = any (λ i. eqb (first i) a && eqb (second i) j) k

    up : T (old && fits a) ⊎ T ((eqb (second k) j && fits (first k)) && eqb a (first k)) → T ((old || (eqb (first k) a && eqb (second k) j)) && fits a)
    up (inl x) = and_of (old || _) _ (or_l old _ (and_l old _ x)) (and_r old _ x)
    up (inr x) =
        let z : T (eqb (second k) j && fits (first k)) = and_l (eqb (second k) j && fits (first k)) _ x in
        let at : a ≡ first k = eqb→eq a (first k) (and_r (eqb (second k) j && fits (first k)) _ x) in
        and_of (old || _) _ (or_r old _ (and_of (eqb (first k) a) _ (eqb_of (sym at)) (and_l (eqb (second k) j) _ z))) (subst (λ (i : ℕ). T (fits i)) (sym at) (and_r (eqb (second k) j) _ z))

    down : T ((old || (eqb (first k) a && eqb (second k) j)) && fits a) → T ((old && fits a) || ((eqb (second k) j && fits (first k)) && eqb a (first k)))
    down x = go (or_cases old _ (and_l (old || _) _ x)) (and_r (old || _) _ x)
      where
        go : T old ⊎ T (eqb (first k) a && eqb (second k) j) → T (fits a) → T ((old && fits a) || ((eqb (second k) j && fits (first k)) && eqb a (first k)))
        go (inl o) g = or_l (old && fits a) _ (and_of old _ o g)
        go (inr o) g =
            let at : first k ≡ a = eqb→eq (first k) a (and_l (eqb (first k) a) _ o) in
            or_r (old && fits a) _ (and_of (eqb (second k) j && fits (first k)) _ (and_of (eqb (second k) j) _ (and_r (eqb (first k) a) _ o) (subst (λ (i : ℕ). T (fits i)) (sym at) g)) (eqb_of (sym at)))

-- the same of the pair as it was read from the bytes
pub pair_by : (first second : ℕ → ℕ) (fits : ℕ → Bool) (j k w v : ℕ) {a b : ℕ} {y : Bool} → Word (λ i. any (λ n. eqb (first n) i && eqb (second n) j) k && fits i) w → a ≡ first k → b ≡ second k
    → y ≡ (eqb b j && fits a) → Word (λ i. has w i || (y && eqb i a)) v → Word (λ i. any (λ n. eqb (first n) i && eqb (second n) j) (k + 1) && fits i) v
pair_by first second fits j k w v {a} {b} {y} f d c e h =
    pair_more first second fits j k w v f (e ∙ ap₂ (λ (x z : ℕ). eqb x j && fits z) c d) (subst (λ (x : ℕ). Word (λ i. has w i || (y && eqb i x)) v) d h)

-- ── the list turned round ──

pub back_length : (xs : List ℕ) (n : ℕ) → length (backwards xs n) ≡ n
unfolding backwards
back_length xs zero = refl
back_length xs (suc n) = ap suc (back_length xs n)

pub back_at : (xs : List ℕ) (n i : ℕ) → i < n → get_or (backwards xs n) i 0 ≡ get_or xs (n - 1 - i) 0
unfolding backwards
back_at xs zero i h = absurd (omega arith)
back_at xs (suc n) zero h = ap (λ (k : ℕ). get_or xs k 0) (omega arith)
back_at xs (suc n) (suc i) h = back_at xs n i (omega arith) ∙ ap (λ (k : ℕ). get_or xs k 0) (omega arith)

back_other : (xs : List ℕ) (k x n : ℕ) → n ≤ k → backwards (set xs k x) n ≡ backwards xs n
unfolding backwards
back_other xs k x zero h = refl
back_other xs k x (suc n) h = ap₂ (λ (y : ℕ) (l : List ℕ). y ∷ l) (get_or-set_other xs k n x 0 (λ e. omega arith)) (back_other xs k x n (omega arith))

-- a job more
back_more : (xs : List ℕ) (n x : ℕ) → n < length xs → x ∷ backwards xs n ≡ backwards (set xs n x) (n + 1)
unfolding backwards
back_more xs n x h =
    let e : suc n ≡ n + 1 = omega arith in
    ap₂ (λ (y : ℕ) (l : List ℕ). y ∷ l) (sym (get_or-set_same xs n x 0 h)) (sym (back_other xs n x n (omega arith))) ∙ ap (backwards (set xs n x)) e

-- ── the way back ──

module _ (l : Loaded) (q : Ask) (bytes : List ℕ) (z : Plan) (job : ℕ) where
  -- the jobs gone back over are the end of the job's chain, behind the chain of job j
  pub record Going (jobs : List ℕ) (count j : ℕ) : Type 0 where
    pub room : length jobs ≡ 24
    pub member : T (has q.set j)
    pub back : (m : List ℕ) → Chain (problem l q) (wanted l q bytes) z j m → Chain (problem l q) (wanted l q bytes) z job (m ++ backwards jobs count)

module _ (l : Loaded) (q : Ask) (bytes : List ℕ) (z : Plan) (job : ℕ) (k : Explainable l q bytes z job) where
  -- check 15 lets no pair through with a job outside the set
  closed : Closed (problem l q) (wanted l q bytes)
  closed a b m n x = go (any_at (λ i. eqb (pair_first bytes i) a && eqb (pair_second bytes i) b) q.pairs x)
    where
      go : (i : ℕ) × (i < q.pairs) × T (eqb (pair_first bytes i) a && eqb (pair_second bytes i) b) → T (has q.set a) × T (has q.set b)
      go (i, h, y) =
          let p = k.ready.paired i h in (
            subst (λ (j : ℕ). T (has q.set j)) (eqb→eq (pair_first bytes i) a (and_l (eqb (pair_first bytes i) a) _ y)) p.0,
            subst (λ (j : ℕ). T (has q.set j)) (eqb→eq (pair_second bytes i) b (and_r (eqb (pair_first bytes i) a) _ y)) p.1,
          )

  at_job : job < q.jobs
  at_job = k.ready.named job k.member

  -- a chain has as many jobs as the table at most
  chain_fits : (m : List ℕ) → Chain (problem l q) (wanted l q bytes) z job m → length m ≤ q.jobs
  chain_fits m c = chain_count (problem l q) (wanted l q bytes) z k.order c at_job

  pub back_fits : (jobs : List ℕ) (count : ℕ) → Chain (problem l q) (wanted l q bytes) z job (backwards jobs count) → count ≤ q.jobs
  back_fits jobs count c = omega (arith, back_length jobs count, chain_fits (backwards jobs count) c)

  pub going_begins : (jobs : List ℕ) → length jobs ≡ 24 → Going l q bytes z job jobs 0 job
  unfolding backwards
  going_begins jobs e = record { room = e; member = k.member; back = λ m c. subst (Chain (problem l q) (wanted l q bytes) z job) (sym (append-nil m)) c }

  module _ (jobs : List ℕ) (count j : ℕ) (g : Going l q bytes z job jobs count j) where
    going_below : j < q.jobs
    going_below = k.ready.named j g.member

    -- there is room for one job more
    going_room : count < 24
    going_room =
        let r = chain_exists (problem l q) (wanted l q bytes) z k.order closed k.settled j going_below g.member in
        omega (
          arith,
          (chain_places (problem l q) (wanted l q bytes) z r.1).some,
          chain_fits (r.0 ++ backwards jobs count) (g.back r.0 r.1),
          length-append r.0 (backwards jobs count),
          back_length jobs count,
          k.ready.few,
        )

    -- job and count within the 24 places of the table and of the list
    pub in_places : (j < 24) × (count < 24) × Going l q bytes z job jobs count j
    in_places = (omega (arith, going_below, k.ready.few), going_room, g)

    more : j ∷ backwards jobs count ≡ backwards (set jobs count j) (count + 1)
    more = back_more jobs count j (omega (arith, g.room, going_room))

    -- a job at its release ends the chain
    pub going_ends : z j ≡ (problem l q).release j → Chain (problem l q) (wanted l q bytes) z job (backwards (set jobs count j) (count + 1))
    going_ends e = subst (Chain (problem l q) (wanted l q bytes) z job) more (g.back (j ∷ []) (released e))

    -- otherwise the lowest that fits is named
    pub going_on : z j ≢ (problem l q).release j → (w a : ℕ) → Word (λ a. fits_before (problem l q) (wanted l q bytes) z a j) w → a ≡ least (has w) 64 → Going l q bytes z job (set jobs count j) (count + 1) a
    going_on n w a f e = record {
      room = simp length-set g.room;
      member = subst (λ (i : ℕ). T (has q.set i)) (sym is) (before_in (problem l q) (wanted l q bytes) z k.order closed k.settled j going_below g.member n).1;
      back = λ m c. subst (Chain (problem l q) (wanted l q bytes) z job) (append_assoc m (j ∷ []) (backwards jobs count) ∙ ap (λ (r : List ℕ). m ++ r) more)
          (g.back (m ++ (j ∷ [])) (pushed n some (subst (λ (i : ℕ). Chain (problem l q) (wanted l q bytes) z i m) is c)));
    }
      where
        some : T (any (λ a. fits_before (problem l q) (wanted l q bytes) z a j) q.jobs)
        some = some_before (problem l q) (wanted l q bytes) z k.order closed k.settled j going_below g.member n

        is : a ≡ before (problem l q) (wanted l q bytes) z j
        is =
            let h = least_hit (λ a. fits_before (problem l q) (wanted l q bytes) z a j) q.jobs some in
            e ∙ least_same (has w) (λ a. fits_before (problem l q) (wanted l q bytes) z a j) 64 (λ i m. f i)
            ∙ sym (found (λ a. fits_before (problem l q) (wanted l q bytes) z a j) 64 _ (omega (arith, h.0, k.ready.few)) h.1 (lowest (λ a. fits_before (problem l q) (wanted l q bytes) z a j) q.jobs).first)
