-- Rounds of pushes: no start goes beyond any starts that keep what is asked, and rounds that change nothing have settled.
-- Assumes nothing.
use mathlib.Core.Path.{◌≡◌, refl, ◌∙◌}
use mathlib.Core.Logic.{◌≢◌, ⊎_elim}
use mathlib.Core.Bool.{◌&&◌}
use mathlib.Core.List.{List}
use Prim.Native.Nat.{ℕ, ◌+◌, ◌-◌, ◌≤◌, ◌<◌, max}
use native.Mathlib.Omega.{arith}
use native.Mathlib.Decide.{dec_lt, ℕ_discrete}
use lib.Dec.{T, eqb, eqb→eq, eqb_refl}
use lib.ListN.{length, set}
use lib.Seq.{get_or-set_same, get_or-set_other}
use borrow.Author.Count.{below_more}
use Rattle.facts.specs.Facts.{has}
use Rattle.facts.proofs.Bools.{and_l, and_r, and_of}
use Rattle.facts.proofs.Least.{any_of, any_at}
use Rattle.rules.specs.Plans.{Plan, finish}
use Rattle.rules.specs.Settling.{Obeys}
use Rattle.rules.proofs.Sums.{sum_falls, cond_yes, cond_no}
use Rattle.rules.specs.Sums.{sum}
use Rattle.tables.specs.declared.Loaded.{Loaded}
use Rattle.tables.specs.declared.Ask.{Ask}
use Rattle.tables.specs.Tables.{job_at, problem}
use Rattle.entries.specs.Entries.{entry, Same}
use Rattle.std.specs.Prelude.{Option, Some, None}
use Rattle.times.specs.Times.{pair_first, pair_second, wanted}
use Rattle.times.specs.Steps.{Ready, Begins, EndInTime, Under, Pushes, Pushed, Behind, NoneUnder, Rounds, Solved}

-- a list with one number raised to x
module _ (s : List ℕ) (b x : ℕ) (room : b < length s) where
  abbrev raised : List ℕ
  raised = set s b (max (entry s b) x)

  raised_there : entry raised b ≡ max (entry s b) x
  raised_there = get_or-set_same s b (max (entry s b) x) 0 room

  raised_else : (j : ℕ) → j ≢ b → entry raised j ≡ entry s j
  raised_else j n = get_or-set_other s b j (max (entry s b) x) 0 n

  raised_le : (j : ℕ) → entry s j ≤ entry raised j
  raised_le j = go (ℕ_discrete j b)
    where
      go : Dec (j ≡ b) → entry s j ≤ entry raised j
      go (yes e) = rw e (omega (arith, raised_there))
      go (no n) = omega (arith, raised_else j n)

-- the pair as it was read from the bytes
pub pushes_by : (l : Loaded) (q : Ask) (s : List ℕ) (r : Option ℕ) {a b a' b' : ℕ} {g : ℕ} → a ≡ a' → b ≡ b' → g ≡ (problem l q).gap → Pushes s b (finish (problem l q) (entry s) a + g) ((problem l q).duration b) q.bound r
    → Pushes s b' (finish (problem l q) (entry s) a' + (problem l q).gap) ((problem l q).duration b') q.bound r
pushes_by l q s r e f z p = rw (e, f, z) at p

module _ (l : Loaded) (q : Ask) (bytes : List ℕ) where
  -- ── starts pushed on ──

  pub pushed_none : (t : Plan) → Pushed l q bytes t t
  pushed_none t = record { later = λ j h. omega arith; ends = λ j h m. absurd (omega arith); out = λ j n. refl; under = λ y k u. u }

  pub pushed_on : (t s r : Plan) → Pushed l q bytes t s → Pushed l q bytes s r → Pushed l q bytes t r
  pushed_on t s r f g = record {
    later = λ j h. omega (arith, f.later j h, g.later j h);
    ends = λ j h m. ends j h m (dec_lt (s j) (r j));
    out = λ j n. g.out j n ∙ f.out j n;
    under = λ y k u. g.under y k (f.under y k u);
  }
    where
      ends : (j : ℕ) → j < q.jobs → t j < r j → Dec (s j < r j) → finish (problem l q) r j ≤ q.bound
      ends j h m (yes n) = g.ends j h n
      ends j h m (no n) = omega (arith, f.ends j h (omega arith))

  module _ (ready : Ready q bytes) where
    pub first_job_lem : (k : ℕ) → k < q.pairs → pair_first bytes k < q.jobs
    first_job_lem k h = ready.named (pair_first bytes k) (ready.paired k h).0

    pub second_job : (k : ℕ) → k < q.pairs → pair_second bytes k < q.jobs
    second_job k h = ready.named (pair_second bytes k) (ready.paired k h).1

    -- what is asked of pair k
    kept : (y : Plan) → Obeys (problem l q) (wanted l q bytes) y → (k : ℕ) → k < q.pairs → finish (problem l q) y (pair_first bytes k) + (problem l q).gap ≤ y (pair_second bytes k)
    kept y w k h =
        omega (
          arith,
          w.order (pair_first bytes k) (pair_second bytes k) (first_job_lem k h) (second_job k h)
              (any_of (λ i. eqb (pair_first bytes i) (pair_first bytes k) && eqb (pair_second bytes i) (pair_second bytes k)) q.pairs k h (and_of (eqb (pair_first bytes k) (pair_first bytes k)) _ (eqb_refl (pair_first bytes k)) (eqb_refl (pair_second bytes k)))),
        )

    -- ── one pair more ──

    module _ (t : Plan) (s : List ℕ) (k : ℕ) (h : k < q.pairs) (f : Pushed l q bytes t (entry s)) where
      abbrev a : ℕ
      a = pair_first bytes k

      abbrev b : ℕ
      b = pair_second bytes k

      abbrev x : ℕ
      x = finish (problem l q) (entry s) a + (problem l q).gap

      -- the push of this pair
      abbrev pub PushesPair : Option ℕ → Type 0
      PushesPair r = Pushes s b x ((problem l q).duration b) q.bound r

      x_under : (y : Plan) → Obeys (problem l q) (wanted l q bytes) y → Under q t y → x ≤ y b
      x_under y w u = omega (arith, kept y w k h, f.under y w u a (first_job_lem k h) (ready.paired k h).0)

      pub pair_none : q.bound < x + (problem l q).duration b → NoneUnder l q bytes t
      pair_none p y w u = omega (arith, p, x_under y w u, w.ends b (second_job k h) (ready.paired k h).1)

      pub pair_pushed : (y : ℕ) → PushesPair (Some y) → Pushed l q bytes t (entry (set s b y))
      pair_pushed y p = rw p.1.0 (record {
        later = λ j m. omega (arith, f.later j m, raised_le s b x p.0 j);
        ends = λ j m o. ends j m o (ℕ_discrete j b);
        out = λ j n. raised_else s b x p.0 j (λ e. n (rw e (ready.paired k h).1)) ∙ f.out j n;
        under = λ y w u j m o. under y w u j m o (ℕ_discrete j b);
      })
        where
          there : entry (raised s b x p.0) b ≡ max (entry s b) x
          there = raised_there s b x p.0

          short : x + (problem l q).duration b ≤ q.bound
          short = p.1.1

          ends : (j : ℕ) → j < q.jobs → t j < entry (raised s b x p.0) j → Dec (j ≡ b) → finish (problem l q) (entry (raised s b x p.0)) j ≤ q.bound
          ends j m o (no n) = let g = raised_else s b x p.0 j n in rw g (f.ends j m (rw g at o))
          ends j m o (yes i) = rw i (go (dec_lt (t b) (entry s b)))
            where
              over : t b < entry (raised s b x p.0) b
              over = rw i at o

              go : Dec (t b < entry s b) → finish (problem l q) (entry (raised s b x p.0)) b ≤ q.bound
              go (yes n) = omega (arith, there, short, f.ends b (second_job k h) n)
              go (no n) = omega (arith, there, short, over)

          under : (y : Plan) → Obeys (problem l q) (wanted l q bytes) y → Under q t y → (j : ℕ) → j < q.jobs → T (has q.set j) → Dec (j ≡ b) → entry (raised s b x p.0) j ≤ y j
          under y w u j m o (no n) = rw (raised_else s b x p.0 j n) (f.under y w u j m o)
          under y w u j m o (yes i) = rw i (omega (arith, there, x_under y w u, f.under y w u b (second_job k h) (ready.paired k h).1))

      pub pair_behind : Behind l q bytes t (entry s) k → (y : ℕ) → PushesPair (Some y) → Behind l q bytes t (entry (set s b y)) (k + 1)
      pair_behind g y p = rw p.1.0 (below_more _ k
          (λ i m. omega (arith, g i m, raised_le s b x p.0 (pair_second bytes i)))
          (omega (arith, raised_there s b x p.0, f.later a (first_job_lem k h))))

    -- ── a round more ──

    pub round_none : (t s : List ℕ) → Pushed l q bytes (entry t) (entry s) → NoneUnder l q bytes (entry s) → NoneUnder l q bytes (entry t)
    round_none t s f g y w u = g y w (f.under y w u)

    pub round_last : (s z : List ℕ) → Behind l q bytes (entry s) (entry z) q.pairs → Same s z q.jobs → Behind l q bytes (entry z) (entry z) q.pairs
    round_last s z g o i h = rw (← o (pair_first bytes i) (first_job_lem i h)) (g i h)

    -- a round that moves a start leaves less to move
    pub round_less : (s r : List ℕ) → Pushed l q bytes (entry s) (entry r) → (Same s r q.jobs → ⊥)
        → sum (λ j. q.bound - entry r j) q.jobs < sum (λ j. q.bound - entry s j) q.jobs
    round_less s r f n = ⊎_elim (λ e. absurd (n (λ j h. still j h (e j h) (dec_lt (entry s j) (entry r j))))) (λ m. m)
        (sum_falls (λ j. q.bound - entry r j) (λ j. q.bound - entry s j) q.jobs (λ j h. omega (arith, f.later j h)))
      where
        still : (j : ℕ) → j < q.jobs → q.bound - entry r j ≡ q.bound - entry s j → Dec (entry s j < entry r j) → entry s j ≡ entry r j
        still j h e (yes m) = absurd (omega (arith, f.ends j h m))
        still j h e (no m) = omega (arith, f.later j h)

    -- ── from the releases to the settled starts ──

    module _ (t : List ℕ) (begins : Begins l q t 24) where
      begun : (j : ℕ) → j < q.jobs → T (has q.set j) → entry t j ≡ (job_at l j).release
      begun j h o = begins j (omega (arith, h, ready.few)) ∙ cond_yes (has q.set j) (job_at l j).release 65535 o

      from_under : (y : Plan) → Obeys (problem l q) (wanted l q bytes) y → Under q (entry t) y
      from_under y w j h o = omega (arith, begun j h o, w.from j h o)

      -- a job of the set that ends late from its release on
      pub found_late : (EndInTime l q (entry t) q.jobs → ⊥) → (y : Plan) → Obeys (problem l q) (wanted l q bytes) y → ⊥
      found_late n y w = n (λ j h i. omega (arith, w.ends j h i, from_under y w j h i))

      pub found : EndInTime l q (entry t) q.jobs → (r : Option (List ℕ)) → Rounds l q bytes (entry t) r → Solved (problem l q) (wanted l q bytes) r
      found d None g = λ y w. g y w (from_under y w)
      found d (Some z) g = record {
        keeps = record {
          from = λ j h i. omega (arith, begun j h i, p.later j h);
          order = λ a b h i w. order a b (any_at (λ k. eqb (pair_first bytes k) a && eqb (pair_second bytes k) b) q.pairs w);
          ends = λ j h i. ends j h i (dec_lt (entry t j) (entry z j));
        };
        least = λ y w j h i. p.under y w (from_under y w) j h i;
        out = λ j h n. p.out j n ∙ begins j (omega (arith, h, ready.few)) ∙ cond_no (has q.set j) (job_at l j).release 65535 n;
      }
        where
          p : Pushed l q bytes (entry t) (entry z)
          p = g.0

          ends : (j : ℕ) → j < q.jobs → T (has q.set j) → Dec (entry t j < entry z j) → finish (problem l q) (entry z) j ≤ q.bound
          ends j h i (yes m) = p.ends j h m
          ends j h i (no m) = omega (arith, d j h i)

          order : (a b : ℕ) → (k : ℕ) × (k < q.pairs) × T (eqb (pair_first bytes k) a && eqb (pair_second bytes k) b) → finish (problem l q) (entry z) a + (problem l q).gap ≤ entry z b
          order a b (k, h, o) =
              rw (← eqb→eq (pair_first bytes k) a (and_l (eqb (pair_first bytes k) a) _ o), ← eqb→eq (pair_second bytes k) b (and_r (eqb (pair_first bytes k) a) _ o))
              (omega (arith, g.1 k h))
