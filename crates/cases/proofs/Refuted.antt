-- Where the test passes, no plan is valid.
-- Assumes nothing.
use mathlib.Core.Path.{◌≡◌}
use mathlib.Core.Logic.{◌⊎◌, inl, inr, ◌≢◌}
use mathlib.Core.Bool.{Bool, true, false, not, ◌&&◌, ◌||◌}
use mathlib.Core.List.{List, [], ◌∷◌, ◌++◌}
use Prim.Native.Nat.{ℕ, zero, suc, ◌+◌, ◌≤◌}
use native.Mathlib.Omega.{arith}
use lib.Dec.{T, eqb, ltb, eqb→eq, ltb→lt, T_not}
use Rattle.facts.specs.Facts.{has}
use Rattle.facts.specs.Least.{any}
use Rattle.facts.proofs.Bools.{and_l, and_r, and_of, or_cases, certain, eqb_of}
use Rattle.facts.proofs.Least.{any_of}
use Rattle.rules.specs.Table.{Problem, needs}
use Rattle.rules.specs.Premises.{InOrder, deletes}
use Rattle.rules.specs.Plans.{Plan, In, finish, Over, Valid}
use Rattle.rules.specs.Supports.{Consumer, Support, start, nobody, by, Who, task, goal, consumer}
use Rattle.rules.proofs.Supported.{Supports, Supported, backed}
use Rattle.cases.proofs.Refute.{Order, order, Known, Task, want, guard, some, every, add_if, collect, include, due_if, exclude, ahead, behind, is_job, at_least, chain, broken, wants, guards, step, refute, hopeless}

-- ── lists ──

abbrev All : {A : Type 0} → (A → Type 0) → List A → Type 0
All Q [] = Unit {0}
All Q (x ∷ xs) = Q x × All Q xs

abbrev Any : {A : Type 0} → (A → Type 0) → List A → Type 0
Any Q [] = ⊥
Any Q (x ∷ xs) = Q x ⊎ Any Q xs

all_append : {A : Type 0} (Q : A → Type 0) (l m : List A) → All Q l → All Q m → All Q (l ++ m)
all_append Q [] m h k = k
all_append Q (x ∷ l) m (h, hs) k = (h, all_append Q l m hs k)

some_at : {A : Type 0} (Q : A → Type 0) (f : A → Bool) (l : List A) → All Q l → T (some f l) → (x : A) × Q x × T (f x)
unfolding some
some_at Q f [] h y = absurd y
some_at {A} Q f (x ∷ l) (h, hs) y = go (or_cases (f x) _ y) (some_at Q f l hs)
  where
    go : T (f x) ⊎ T (some f l) → (T (some f l) → (u : A) × Q u × T (f u)) → (u : A) × Q u × T (f u)
    go (inl t) r = (x, h, t)
    go (inr t) r = r t

every_at : {A : Type 0} (Q : A → Type 0) (f : A → Bool) (l : List A) → Any Q l → T (every f l) → (x : A) × Q x × T (f x)
unfolding every
every_at Q f [] h y = absurd h
every_at Q f (x ∷ l) (inl h) y = (x, h, and_l (f x) _ y)
every_at Q f (x ∷ l) (inr h) y = every_at Q f l h (and_r (f x) _ y)

unless : (a b : Bool) → T (not a || b) → T a → T b
unless true b h k = h
unless false b h k = absurd k

due_if_lem : (b : Bool) (x t : ℕ) → (T b → ⊥) → x ≤ t → x ≤ due_if b t
unfolding due_if
due_if_lem true x t q l = absurd (q tt)
due_if_lem false x t q l = l

module _ (P : Problem) (ok : InOrder P) (bound : ℕ) (z : Plan) (v : Valid P bound z) where
  -- the plan has both jobs, in this order
  abbrev Kept : Order → Type 0
  Kept e = In P z e.a × In P z e.b × Over P z e.a e.b

  -- the plan is as known
  record Fits (k : Known) : Type 0 where
    due : (i : ℕ) → In P z i → finish P z i ≤ k.due i
    ins : All (In P z) k.ins
    orders : All Kept k.orders

  -- the plan has what is to be decided
  abbrev Open : Task → Type 0
  Open (want goal p) = T (has P.goals p)
  Open (want (task b) p) = In P z b × needs P b p
  Open (guard d sides) = In P z d → Any Kept sides

  -- ── what is known ──

  -- along an order starts rise, so a chain neither ends too late nor comes back
  chain_ok : (k : Known) → Fits k → (n o i t : ℕ) → T (chain P k n o i t) → In P z i → t ≤ z i → z o ≤ z i → ⊥
  unfolding at_least chain
  chain_ok k f zero o i t x m l h = x
  chain_ok k f (suc n) o i t x m l h = go (or_cases (ltb (k.due i) (at_least P i t + P.duration i)) _ x) (chain_ok k f n o)
    where
      begins : at_least P i t ≤ z i
      begins = omega (arith, v.released i m)

      on : Order → Bool
      on e = eqb e.b o || chain P k n o e.b (at_least P i t + P.duration i + P.gap)

      along : (e : Order) → Kept e → T (eqb e.a i && on e) → ((j u : ℕ) → T (chain P k n o j u) → In P z j → u ≤ z j → z o ≤ z j → ⊥) → ⊥
      along e (a, b, c) y r = way (or_cases (eqb e.b o) _ (and_r (eqb e.a i) _ y))
        where
          over : z i + P.duration i + P.gap ≤ z e.b
          over = rw (eqb→eq e.a i (and_l (eqb e.a i) _ y)) at c

          way : T (eqb e.b o) ⊎ T (chain P k n o e.b (at_least P i t + P.duration i + P.gap)) → ⊥
          way (inl q) = let same : z e.b ≡ z o = rw (eqb→eq e.b o q) in omega (arith, over, ok.long i m.below)
          way (inr q) = r e.b _ q b (omega (arith, over, begins)) (omega (arith, over))

      go : T (ltb (k.due i) (at_least P i t + P.duration i)) ⊎ T (some (λ e. eqb e.a i && on e) k.orders)
          → ((j u : ℕ) → T (chain P k n o j u) → In P z j → u ≤ z j → z o ≤ z j → ⊥) → ⊥
      go (inl y) r = omega (arith, ltb→lt (k.due i) (at_least P i t + P.duration i) y, f.due i m, begins)
      go (inr y) r = let w = some_at Kept (λ e. eqb e.a i && on e) k.orders f.orders y in along w.0 w.1 w.2 r

  broken_ok : (k : Known) → Fits k → T (broken P k) → ⊥
  unfolding broken
  broken_ok k f x =
      let w = some_at (In P z) (λ i. chain P k (suc P.count) i i 0) k.ins f.ins x in
      chain_ok k f (suc P.count) w.0 w.0 0 w.2 w.1 (omega arith) (omega arith)

  include_ok : (a : ℕ) (es : List Order) (k : Known) → In P z a → All Kept es → Fits k → Fits (include a es k)
  unfolding include
  include_ok a es k m h f = record { due = f.due; ins = (m, f.ins); orders = all_append Kept es k.orders h f.orders }

  exclude_ok : (d : ℕ) (k : Known) → (In P z d → ⊥) → Fits k → Fits (exclude d k)
  unfolding exclude
  exclude_ok d k out f = record {
    due = λ i m. due_if_lem (eqb i d) (finish P z i) (k.due i) (λ e. out (rw (eqb→eq i d e) at m)) (f.due i m);
    ins = f.ins;
    orders = f.orders;
  }

  -- ── what is left to decide ──

  add_ok : (b : Bool) (t : Task) (ts : List Task) → (T b → Open t) → All Open ts → All Open (add_if b t ts)
  unfolding add_if
  add_ok true t ts h hs = (h tt, hs)
  add_ok false t ts h hs = hs

  collect_ok : (f : ℕ → Bool) (t : ℕ → Task) (n : ℕ) (ts : List Task) → ((i : ℕ) → T (f i) → Open (t i)) → All Open ts → All Open (collect f t n ts)
  unfolding collect
  collect_ok f t zero ts h hs = hs
  collect_ok f t (suc k) ts h hs = add_ok (f k) (t k) _ (h k) (collect_ok f t k ts h hs)

  wants_ok : (k : Known) (a : ℕ) (ts : List Task) → In P z a → All Open ts → All Open (wants P k a ts)
  unfolding wants
  wants_ok k a ts m hs =
      collect_ok (λ p. has (P.conditions a) p && not (some (eqb a) k.ins)) (want (task a)) P.atoms ts (λ p x. (m, and_l (has (P.conditions a) p) _ x)) hs

  guards_ok : (w : Who) (p : ℕ) (sides : ℕ → List Order) (ts : List Task) → ((d : ℕ) → deletes P d p → (T (is_job w d) → ⊥) → In P z d → Any Kept (sides d))
      → All Open ts → All Open (guards P w p sides ts)
  unfolding guards
  guards_ok w p sides ts h hs =
      collect_ok (λ d. has (P.deletions d) p && not (is_job w d)) (λ d. guard d (sides d)) P.count ts
      (λ d x. h d (and_l (has (P.deletions d) p) _ x) (T_not (is_job w d) (and_r (has (P.deletions d) p) _ x))) hs

  -- ── who has a condition ──

  -- as the rules have it
  abbrev consumes : Who → Consumer
  consumes w = consumer P bound z w

  -- the support theorem
  supported : (w : Who) (p : ℕ) → Open (want w p) → Supported P z p (consumes w)
  supported goal p g = (backed P ok bound z v).reached p g
  supported (task b) p (m, n) = (backed P ok bound z v).ready b p m n

  other : (w : Who) (d : ℕ) → In P z d → (T (is_job w d) → ⊥) → d ≢ (consumes w).me
  unfolding is_job
  other goal d m q e = omega (arith, m.below)
  other (task b) d m q e = q (eqb_of e)

  ahead_ok : (w : Who) (p a : ℕ) → Open (want w p) → In P z a → finish P z a + (consumes w).lag ≤ (consumes w).at → All Kept (ahead a w)
  unfolding ahead
  ahead_ok goal p a h m l = tt
  ahead_ok (task b) p a (k, n) m l = ((m, k, l), tt)

  behind_ok : (w : Who) (p d : ℕ) → Open (want w p) → In P z d → (consumes w).till + (consumes w).lag ≤ z d → Any Kept (behind w d)
  unfolding behind
  behind_ok goal p d h m l = omega (arith, v.inside d m, ok.long d m.below)
  behind_ok (task b) p d (k, n) m l = inl (k, m, l)

  -- ── one task more ──

  module _ (r : List Task → Known → Bool) (r_ok : (ts : List Task) (k : Known) → T (r ts k) → All Open ts → Fits k → ⊥) where
    want_ok : (w : Who) (p : ℕ) (ts : List Task) (k : Known) → Open (want w p) → (x : Support) → Supports P z p (consumes w) x
        → T (step P r (want w p ∷ ts) k) → All Open ts → Fits k → ⊥
    unfolding step
    want_ok w p ts k h start (o, c) y hs f =
        r_ok (guards P w p (behind w) ts) k
        (unless (has P.opening p) _ (and_l (not (has P.opening p) || r (guards P w p (behind w) ts) k) _ y) o)
        (guards_ok w p (behind w) ts (λ d x q m. side d m (c d m x (other w d m q))) hs) f
      where
        side : (d : ℕ) → In P z d → (finish P z d + 0 ≤ 0) ⊎ ((consumes w).till + (consumes w).lag ≤ z d) → Any Kept (behind w d)
        side d m (inl l) = absurd (omega (arith, ok.long d m.below))
        side d m (inr l) = behind_ok w p d h m l
    want_ok w p ts k h nobody g y hs f = g
    want_ok w p ts k h (by a) g y hs f =
        r_ok (left a) (more a)
        (certain (given a) (λ n. T_not (any (λ a. has (P.additions a) p && not (given a)) P.count) (and_r (not (has P.opening p) || r (guards P w p (behind w) ts) k) _ y)
        (any_of (λ a. has (P.additions a) p && not (given a)) P.count a g.there.below (and_of (has (P.additions a) p) _ g.gives n))))
        (guards_ok w p (λ d. order d a ∷ behind w d) (wants P k a ts) (λ d x q m. side d m (g.clear d m x (other w d m q))) (wants_ok k a ts g.there hs))
        (include_ok a (ahead a w) k g.there (ahead_ok w p a h g.there g.before) f)
      where
        left : ℕ → List Task
        left a = guards P w p (λ d. order d a ∷ behind w d) (wants P k a ts)

        more : ℕ → Known
        more a = include a (ahead a w) k

        given : ℕ → Bool
        given a = r (left a) (more a)

        side : (d : ℕ) → In P z d → (finish P z d + P.gap ≤ z a) ⊎ ((consumes w).till + (consumes w).lag ≤ z d) → Any Kept (order d a ∷ behind w d)
        side d m (inl l) = inl (m, g.there, l)
        side d m (inr l) = inr (behind_ok w p d h m l)

    guard_ok : (d : ℕ) (sides : List Order) (ts : List Task) (k : Known) → (In P z d → Any Kept sides) → T (step P r (guard d sides ∷ ts) k) → All Open ts → Fits k → ⊥
    unfolding step
    guard_ok d sides ts k h y hs f = r_ok ts (exclude d k) (and_l (r ts (exclude d k)) _ y) hs (exclude_ok d k out f)
      where
        out : In P z d → ⊥
        out m =
            let w = every_at Kept (λ e. r (wants P k d ts) (include d (e ∷ []) k)) sides (h m) (and_r (r ts (exclude d k)) _ y) in
            r_ok (wants P k d ts) (include d (w.0 ∷ []) k) w.2 (wants_ok k d ts m hs) (include_ok d (w.0 ∷ []) k m (w.1, tt) f)

    step_ok : (ts : List Task) (k : Known) → T (step P r ts k) → All Open ts → Fits k → ⊥
    unfolding step
    step_ok [] k y hs f = y
    step_ok (want w p ∷ ts) k y (h, hs) f = let x = supported w p h in want_ok w p ts k h x.0 x.1 y hs f
    step_ok (guard d sides ∷ ts) k y (h, hs) f = guard_ok d sides ts k h y hs f

  refute_ok : (n : ℕ) (ts : List Task) (k : Known) → T (refute P n ts k) → All Open ts → Fits k → ⊥
  unfolding refute
  refute_ok zero ts k y hs f = y
  refute_ok (suc n) ts k y hs f = go (or_cases (broken P k) _ y) (step_ok (refute P n) (refute_ok n) ts k)
    where
      go : T (broken P k) ⊎ T (step P (refute P n) ts k) → (T (step P (refute P n) ts k) → All Open ts → Fits k → ⊥) → ⊥
      go (inl x) r = broken_ok k f x
      go (inr x) r = r x hs f

  -- so no valid plan keeps the dues
  pub hopeless_ok : (due : ℕ → ℕ) → ((i : ℕ) → In P z i → finish P z i ≤ due i) → T (hopeless P due) → ⊥
  unfolding hopeless
  hopeless_ok due h y = refute_ok 40 _ _ y (collect_ok (has P.goals) (want goal) P.atoms [] (λ p g. g) tt) (record { due = h; ins = tt; orders = tt })
