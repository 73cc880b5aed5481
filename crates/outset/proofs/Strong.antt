-- What is searched for a table: the table with e-deletions, which has the same plans.
-- Assumes nothing.
use mathlib.Core.Path.{◌≡◌, refl, sym, ap, subst}
use mathlib.Core.Logic.{inl, ◌↔◌}
use mathlib.Core.List.{List}
use Prim.Native.Nat.{ℕ, ◌+◌, ◌≤◌, ◌<◌}
use native.Mathlib.Omega.{arith}
use native.Mathlib.Decide.{dec_le}
use lib.ListN.{get_or}
use Rattle.rules.specs.Table.{Problem}
use Rattle.rules.specs.Premises.{InOrder}
use Rattle.rules.specs.Plans.{Plan, In, Valid}
use Rattle.rules.specs.Order.{First, NoPlan}
use Rattle.rules.specs.Estimates.{Estimates}
use Rattle.rules.proofs.Early.{dearest_release, never_early}
use Rattle.tables.specs.declared.Action.{Action}
use Rattle.tables.specs.declared.Loaded.{Loaded}
use Rattle.tables.specs.declared.Ask.{Ask}
use Rattle.tables.specs.Tables.{job_at, problem}
use Rattle.tables.specs.Steps.{Released}
use Rattle.tables.proofs.Laws.{gap_one}
use Rattle.entries.specs.Entries.{entry}
use Rattle.reach.specs.Reach.{Closed, Exact, strong, EWords}
use Rattle.reach.specs.Rows.{in_rows, FitIn, deleting, EDone}
use Rattle.reach.proofs.States.{states}
use Rattle.reach.proofs.Same.{strong_ok, same_valid}
use Rattle.reach.proofs.EDeletes.{fit}
use Rattle.reach.proofs.Alike.{Alike, closed_alike}
use Rattle.reach.proofs.Words.{edone_rest, edone_words}
use Rattle.states.specs.State.{Leads}
use Rattle.lent.specs.Lent.{Cols, Spacing, Listed, hits_of, est_of, wait_of, led_of}
use Rattle.turns.specs.Checked.{Leader}
use Rattle.outset.specs.Outset.{Hit, Stands, AllWait, Lists, WaitsPut, LeadsPut, SearchedFor}
use Rattle.outset.proofs.Apart.{waits_old}
use native.Mathlib.Nat.{add-sub_cancel}

-- ── the lists of a table are those of its problem ──

module _ (k : Loaded) (q : Ask) (few : q.jobs ≤ 24) (ok : InOrder (problem k q)) (est L : List ℕ) (t : Lists k q est L 228) where
  hit : (a : ℕ) → a < 24 → Cols (Hit k q a) (hits_of L a) 24
  hit a l = rw (add-sub_cancel a 178) at ((((((((t (a + 178) (omega arith)).there (omega arith)).there (omega arith)).there (omega arith)).there (omega arith)).there (omega arith)).there (omega arith)).here (omega arith))

  begins : (i : ℕ) → i < 24 → est_of L i ≡ get_or est i 0
  begins i l = rw (add-sub_cancel i 202) at (((((((((t (i + 202) (omega arith)).there (omega arith)).there (omega arith)).there (omega arith)).there (omega arith)).there (omega arith)).there (omega arith)).there (omega arith)).here (omega arith))

  pub listed_of : ((bound : ℕ) (Q : Plan) → Valid (problem k q) bound Q → (i : ℕ) → In (problem k q) Q i → get_or est i 0 ≤ Q i) → ((i : ℕ) → i < q.jobs → (job_at k i).release ≤ get_or est i 0) → ((a : ℕ) → a < q.jobs → Spacing (problem k q) a (wait_of L a)) → ((a : ℕ) → a < 24 → led_of L a < 24 → (bound : ℕ) → Leads (record { problem = problem k q; bound = bound }) a (led_of L a)) → Listed L (problem k q)
  listed_of early held apart leads = record {
    wf = ok;
    few = few;
    count = omega (arith, (((((((((t 226 (omega arith)).there (omega arith)).there (omega arith)).there (omega arith)).there (omega arith)).there (omega arith)).there (omega arith)).there (omega arith)).there (omega arith)).here (omega arith));
    opening = sym ((((t 25 (omega arith)).there (omega arith)).there (omega arith)).here (omega arith));
    conds = λ b l. sym ((t b (omega arith)).here l);
    goals = sym (((t 24 (omega arith)).there (omega arith)).here (omega arith));
    adders = λ p l. rw (add-sub_cancel p 26) at (((((t (p + 26) (omega arith)).there (omega arith)).there (omega arith)).there (omega arith)).here (omega arith));
    killers = λ p l. rw (add-sub_cancel p 90) at ((((((t (p + 90) (omega arith)).there (omega arith)).there (omega arith)).there (omega arith)).there (omega arith)).here (omega arith));
    steps = λ a l. omega (arith, rw (add-sub_cancel a 154) at (((((((t (a + 154) (omega arith)).there (omega arith)).there (omega arith)).there (omega arith)).there (omega arith)).there (omega arith)).here (omega arith)));
    clash = λ a b l h. ((hit a l).of b h).1.1;
    meets = λ a b l m h. (hit a (omega arith)).at b (omega arith) (m, h);
    early = λ bound Q v i h. omega (arith, begins i (omega (arith, h.below)), early bound Q v i h);
    apart = apart;
    leads = leads;
    gap = omega (arith, gap_one q.atoms, (((((((((t 227 (omega arith)).there (omega arith)).there (omega arith)).there (omega arith)).there (omega arith)).there (omega arith)).there (omega arith)).there (omega arith)).there (omega arith)).there (omega arith));
    release = λ i h. omega (arith, begins i (omega arith), held i h);
  }

-- the goals of a plan hold together
pub together : (l : Loaded) (q : Ask) → InOrder (problem l q) → (rows : List ℕ) → Exact (problem l q) (in_rows rows) → (bound : ℕ) → (FitIn rows q.goals 64 → ⊥) → NoPlan (problem l q) bound
together l q ok rows x bound n z v = n (λ r m g u h. states (problem l q) ok bound z v (in_rows rows) x.closed bound r u (v.reached r g) (v.reached u h))

-- ── the table with e-deletions ──

module _ (l : Loaded) (q : Ask) (ok : InOrder (problem l q)) (rows : List ℕ) (x : Exact (problem l q) (in_rows rows)) (k : Loaded) (d : EDone rows l q.jobs k) where
  abbrev P : Problem
  P = problem l q

  abbrev K : Problem
  K = problem k q

  abbrev D : ℕ → ℕ
  D i = (job_at k i).deletions

  words : EWords P (in_rows rows) D
  words = edone_words l q rows k ok x.closed d

  rest : (i : ℕ) → job_at k i ≡ deleting (job_at l i) (D i)
  rest = edone_rest rows l q.jobs k d

  is_strong : K ≡ strong P D
  is_strong = λ t. record {
    count = q.jobs;
    conditions = λ i. (rest i t).conditions;
    additions = λ i. (rest i t).additions;
    deletions = D;
    duration = λ i. (rest i t).duration;
    release = λ i. (rest i t).release;
    gap = P.gap;
    atoms = P.atoms;
    opening = q.opening;
    goals = q.goals;
  }

  strong_order : InOrder (strong P D)
  strong_order = strong_ok P ok (in_rows rows) x D words

  order : InOrder K
  order = subst InOrder (sym is_strong) strong_order

  alike : Alike (strong P D) P
  alike = record { count = refl; conditions = λ i h. refl; additions = λ i p h m. refl; opening = refl }

  closed : Closed K (in_rows rows)
  closed = subst (λ (Z : Problem). Closed Z (in_rows rows)) (sym is_strong) (closed_alike (strong P D) P strong_order alike (λ i p h y. (words i p h).1 (inl y)) (in_rows rows) x.closed)

  same_plans : (bound : ℕ) (s : Plan) → Valid P bound s ↔ Valid K bound s
  same_plans bound s = subst (λ (Z : Problem). Valid P bound s ↔ Valid Z bound s) (sym is_strong) (same_valid P ok (in_rows rows) x D words bound s)

  -- so the first plan is the same, and who leads in it
  first_same : (bound : ℕ) (F : Plan) → First K bound F → First P bound F
  first_same bound F f = record { ok = (same_plans bound F).1 f.ok; none = λ z v b. f.none z ((same_plans bound z).0 v) (record { at = b.at; below = b.below; same = b.same; less = b.less }) }

  leads_same : (a n : ℕ) → Leader l q a n → (bound : ℕ) → Leads (record { problem = K; bound = bound }) a n
  leads_same a n h bound = record {
    joins = λ F f i. (let y = (h ok bound).joins F (first_same bound F f) (record { below = i.below; chosen = i.chosen }) in record { below = y.below; chosen = y.chosen });
    order = λ F f i. (h ok bound).order F (first_same bound F f) (record { below = i.below; chosen = i.chosen });
  }

  -- no release is over 2,880
  pub released : Released l q → Released k q
  released r i h = omega (arith, ap (λ (a : Action). a.release) (rest i), r i h)

  pub sets_out : (base est L M N : List ℕ) → q.jobs ≤ 24 → Released l q → Estimates K (entry base) → AllWait rows k base est 24 → Lists k q est L 228 → WaitsPut K q.jobs L M
      → LeadsPut l q 24 M N → SearchedFor l q N
  sets_out base est L M N few r e w t p f = record {
    searched = K;
    jobs = refl;
    listed = listed_of k q few order est N (λ i h. subst (λ (x : ℕ). Stands k q est i x) (sym (waits.old i h)) (t i h)) early held (waits.apart order) (λ a h m. leads_same a (led_of N a) (f.leads a h m));
    same = same_plans;
  }
    where
      waits : WaitsPut K q.jobs L N
      waits = waits_old K few L few p f.old

      -- an estimate is no less than the release, and so is 65,535
      held : (i : ℕ) → i < q.jobs → (job_at k i).release ≤ get_or est i 0
      held i h = go (dec_le (job_at k i).release (get_or est i 0))
        where
          go : Dec ((job_at k i).release ≤ get_or est i 0) → (job_at k i).release ≤ get_or est i 0
          go (yes y) = y
          go (no n) =
              let late : FitIn rows (job_at k i).conditions 64 → ⊥ = λ fits. omega (arith, (w i (omega arith)).fit fits, e i h, dearest_release K (entry base) i 64) in
              omega (arith, (w i (omega arith)).unfit late, released r i h)

      -- the conditions of a job of the plan are pairwise reachable, so it waits for its estimate
      early : (bound : ℕ) (Q : Plan) → Valid K bound Q → (i : ℕ) → In K Q i → get_or est i 0 ≤ Q i
      early bound Q v i h =
          let fits : FitIn rows (job_at k i).conditions 64 = λ r m a u b. fit K order bound Q v (in_rows rows) closed i h r u a b in
          omega (arith, (w i (omega (arith, h.below))).fit fits, never_early K order (entry base) e bound Q v i h)
