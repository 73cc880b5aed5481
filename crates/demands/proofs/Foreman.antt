-- Demand 3 of the answers: from the promises alone, over the supports and the pairs in the written bytes.
-- Assumes nothing.
use mathlib.Core.Path.{◌≡◌, refl, sym, ap, ◌∙◌, subst}
use mathlib.Core.Logic.{◌↔◌}
use mathlib.Core.Bool.{Bool, false, ◌||◌}
use mathlib.Core.List.{List, [], ◌∷◌}
use Prim.Native.Nat.{ℕ, ◌+◌, ◌*◌, ◌/◌, ◌≤◌}
use native.Mathlib.Omega.{arith}
use borrow.Author.Tests.{le-ltb, eq-eqb}
use lib.Dec.{T, eqb, ltb, ltb→lt}
use lib.ListN.{length, get_or}
use Rattle.facts.proofs.Bools.{or_l, or_r, at_most}
use Rattle.refusals.specs.Refusals.{accepted}
use Rattle.refusals.proofs.Refused.{if_pass, if_zero, both}
use Rattle.rules.specs.Table.{Problem, table_checks, bound_check}
use Rattle.rules.specs.Premises.{InOrder}
use Rattle.rules.specs.Plans.{Plan, starts, Valid}
use Rattle.rules.specs.Supports.{wants, whose_row, support_byte}
use Rattle.rules.specs.Pairs.{pair_bytes}
use Rattle.rules.specs.Execution.{began, finished, Log, Allowed}
use Rattle.rules.proofs.CheckLists.{table_checks_lem}
use Rattle.rules.proofs.Named.{binds_at, table_none}
use Rattle.rules.proofs.Orders.{wider}
use Rattle.rules.proofs.Performed.{conditions, demand3}
use Rattle.rules.proofs.OneByOne.{one_by_one}
use Rattle.tables.specs.declared.Loaded.{Loaded}
use Rattle.tables.specs.declared.Ask.{Ask}
use Rattle.tables.specs.declared.Answer.{Answer}
use Rattle.tables.specs.Tables.{problem, filled, written, call_checks}
use Rattle.tables.proofs.Lent.{filled_at, length_filled}
use Rattle.tables.proofs.Laws.{accepts, numbered, changed_new}
use Rattle.tables.proofs.Calls.{cleared}
use Rattle.verdict.specs.Offered.{offered}
use Rattle.verdict.specs.Steps.{Sound}
use Rattle.verdict.proofs.Accepted.{offered_checks, sound, exactly}
use Rattle.bindings.specs.Bindings.{InBytes, BindsIn, Supports, support_verdict, Pairs, pair_verdict}
use Rattle.bindings.proofs.Count.{pairs_room}
use Rattle.bindings.proofs.Listed.{listed}
use Rattle.planning.specs.Planning.{planning_checks, PlansWithin, BoundsWithin}
use Rattle.planning.proofs.Found.{plan_found, bound_found}
use Rattle.demands.specs.Kept.{AllowedBy, Foreman, Backing, Usable, with_bound}
use Rattle.rules.proofs.SamePlan.{valid_same}

-- ── the pairs in the bytes are the binding pairs ──

module _ (P : Problem) (s : Plan) (bytes : List ℕ) (n : ℕ) (exact : (a b : ℕ) → InBytes bytes n a b ↔ BindsIn P s a b) where
  -- what keeps the pairs listed keeps the binding pairs
  allowed : (h : Log) → AllowedBy P s bytes n h → Allowed P s h
  allowed [] x = tt
  allowed (began j ∷ h) (m, x) =
      (record { there = m.there; once = m.once; free = λ a i t. m.free a ((exact a j).1 (i.below, m.there.below, t)) }, allowed h x)
  allowed (finished j ∷ h) (m, x) = (m, allowed h x)

  -- and the other way round
  by_bytes : (h : Log) → Allowed P s h → AllowedBy P s bytes n h
  by_bytes [] x = tt
  by_bytes (began j ∷ h) (m, x) =
      (record { there = m.there; once = m.once; free = λ a t. let q = (exact a j).0 t in m.free a (binds_at P s a j q.0 q.1 q.2).first q.2 }, by_bytes h x)
  by_bytes (finished j ∷ h) (m, x) = (m, by_bytes h x)

  -- so they are all that the foreman has to keep, and they can be kept
  foreman : InOrder P → (bound : ℕ) → Valid P bound s → Foreman P bound s bytes n
  foreman ok bound v = record {
    working = λ h al. conditions P ok bound s v h (allowed h al);
    whole = λ h al all. demand3 P ok bound s v h (allowed h al) all;
    some = let o = one_by_one P ok bound s v in (o.log, by_bytes o.log o.allowed, o.complete);
    exact = exact;
  }

-- ── what the calls write of a plan that they accept ──

module _ (l : Loaded) (q : Ask) (s old new : List ℕ) (r : Answer) where
  abbrev P : Problem
  P = problem l q

  -- the foreman has to keep the pairs that stand in the bytes
  pub offered_kept : Pairs l q s old new r → r.number ≡ 0 → Foreman P q.bound (starts s) new r.value
  offered_kept p z =
      subst (λ (x : List ℕ). Foreman P q.bound (starts s) x r.value) (sym bytes)
      (subst (Foreman P q.bound (starts s) (written (pair_bytes P (starts s)) old)) (sym value)
      (foreman P (starts s) _ _ (listed P (starts s) old (omega (arith, at_most (length old) 552 ok.room, pairs_room P (starts s) ok.clear.order ok.clear.few))) ok.clear.order q.bound ok.valid))
    where
      v : (pair_verdict l q s old).number ≡ 0
      v = sym (numbered _ 0 p.says) ∙ z

      ok : Sound (ltb (length old) 552) l q s
      ok = sound (ltb (length old) 552) l q s (accepts (offered_checks (ltb (length old) 552) l q s) v)

      bytes : new ≡ written (pair_bytes P (starts s)) old
      bytes = p.list ∙ changed_new (pair_verdict l q s old) _ old v

      value : r.value ≡ length (pair_bytes P (starts s)) / 2
      value = ap (λ (x : Answer). x.value) p.says ∙ simp (eq-eqb _ _ v)

  -- every condition has its support in the bytes
  pub offered_backed : Supports l q s old new r → r.number ≡ 0 → Backing P (starts s) new
  offered_backed p z b k i m =
      subst (λ (x : ℕ). (x ≡ 255) ↔ (wants P (starts s) (whose_row (eqb b q.jobs) b) k ≡ false)) (sym at)
      (table_none P ok.clear.order ok.clear.few q.bound (starts s) ok.valid b k i m)
    where
      v : (support_verdict l q s old).number ≡ 0
      v = sym (numbered _ 0 p.says) ∙ z

      ok : Sound (ltb (length old) (64 * (q.jobs + 1))) l q s
      ok = sound (ltb (length old) (64 * (q.jobs + 1))) l q s (accepts (offered_checks (ltb (length old) (64 * (q.jobs + 1))) l q s) v)

      at : get_or new (64 * b + k) 0 ≡ support_byte P q.bound (starts s) (64 * b + k)
      at = ap (λ (x : List ℕ). get_or x (64 * b + k) 0) (p.table ∙ changed_new (support_verdict l q s old) _ old v)
          ∙ filled_at (support_byte P q.bound (starts s)) (64 * (q.jobs + 1)) old (64 * b + k) 0 (omega arith) (omega (arith, at_most (length old) (64 * (q.jobs + 1)) ok.room))

-- ── a plan that was found ──

module _ (l : Loaded) (q : Ask) (old new : List ℕ) (s : Plan) (e : planning_checks l q (length old) accepted ≡ accepted) (t : new ≡ filled s q.jobs old) (v : Valid (problem l q) q.bound s) where
  clear : (T (ltb (length old) q.jobs || ltb l.lent q.jobs) → ⊥) × (table_checks (problem l q) (bound_check q.bound accepted) ≡ accepted)
  clear = if_zero (ltb (length old) q.jobs || ltb l.lent q.jobs) 3 0 _ (omega arith) e

  room : q.jobs ≤ length old
  room = at_most (length old) q.jobs (λ x. clear.0 (or_l (ltb (length old) q.jobs) _ x))

  -- the plan is accepted as it stands
  taken : (offered false l q new accepted).number ≡ 0
  taken = (exactly l q new _ refl).1 (
    omega (arith, room, ap length t, length_filled s q.jobs old),
    at_most l.lent q.jobs (λ x. clear.0 (or_r (ltb (length old) q.jobs) _ x)),
    clear.1,
    valid_same (problem l q) s (starts new) (λ i h. sym (ap (λ (x : List ℕ). get_or x i 0) t ∙ filled_at s q.jobs old i 0 h (omega (arith, room)))) q.bound v,
  )

  -- with any memory that is long enough
  taken_in : (m n : ℕ) → n ≤ m → (offered (ltb m n) l q new accepted).number ≡ 0
  taken_in m n w = ap (λ (b : Bool). (offered b l q new accepted).number) (le-ltb m n w) ∙ taken

  kept : Usable l q new
  kept = record {
    checks = λ r p. numbered 0 0 p ∙ taken;
    supports = λ bytes bytes' r w p. let z = numbered 0 0 p.says ∙ taken_in (length bytes) (64 * (q.jobs + 1)) w in (z, offered_backed l q new bytes bytes' r p z);
    pairs = λ bytes bytes' r w p. let z = numbered _ 0 p.says ∙ taken_in (length bytes) 552 w in (z, offered_kept l q new bytes bytes' r p z);
  }

-- what passes with a bound passes with a lower one
lower : (short : Bool) (l : Loaded) (q : Ask) (b : ℕ) → b ≤ q.bound → call_checks short q.bound l q accepted ≡ accepted → call_checks short b l q accepted ≡ accepted
unfolding bound_check
lower short l q b w e =
    let a = if_zero (short || ltb l.lent q.jobs) 3 0 _ (omega arith) e in
    if_pass (short || ltb l.lent q.jobs) 3 0 _ a.0
    ∙ ap (table_checks (problem l q)) (if_pass (ltb 2880 b) 9 0 accepted (λ h. omega (arith, ltb→lt 2880 b h, (cleared short q.bound l q e).within)))
    ∙ (both (bound_check q.bound accepted) (table_checks_lem (problem l q)) a.1).0

module _ (l : Loaded) (q : Ask) (old new : List ℕ) (a : Answer) where
  -- the foreman may run the plan that planning within the bound gave
  pub plan_kept : PlansWithin l q old new a → a.number ≡ 0 → Usable l q new
  plan_kept p z = let f = plan_found l q old new a p z in kept l q old new f.s f.checks f.table f.ok.ok

  -- and the plan that came with the least bound, asked at the bound that was given
  pub bound_kept : BoundsWithin l q old new a → a.number ≡ 0 → Usable l q new
  bound_kept p z =
      let f = bound_found l q old new a p z in
      kept l q old new f.s f.checks f.table (wider (problem l q) a.value q.bound f.s f.ok.within f.ok.first.ok)

  -- or at the least bound itself
  pub least_kept : BoundsWithin l q old new a → a.number ≡ 0 → Usable l (with_bound q a.value) new
  least_kept p z =
      let f = bound_found l q old new a p z in
      kept l (with_bound q a.value) old new f.s (lower (ltb (length old) q.jobs) l q a.value f.ok.within f.checks) f.table f.ok.first.ok
