-- Laws of the flaw finder.
-- Assumes nothing.
use mathlib.Core.Path.{◌≡◌, sym, subst}
use mathlib.Core.Logic.{◌≢◌, inl, inr, ⊎_elim}
use mathlib.Core.List.{List}
use Prim.Native.Nat.{ℕ, ◌≤◌, ◌<◌}
use native.Mathlib.Omega.{arith}
use lib.Dec.{T}
use Rattle.facts.specs.Facts.{has}
use Rattle.facts.specs.Least.{least}
use Rattle.facts.proofs.Bools.{T?}
use Rattle.facts.proofs.Sets.{has_zero}
use Rattle.facts.proofs.Walks.{Done, done_all, Over, over_here}
use Rattle.rules.specs.Supports.{start, nobody, by}
use Rattle.states.specs.State.{Search, Dead, surely_done, there, StartMay}
use Rattle.states.proofs.Rules as rules
use Rattle.cells.specs.View.{view}
use Rattle.lent.specs.Lent.{Cols, Kills, Lent, wants_of, adders_of, killers_of, hits_of}
use Rattle.lent.specs.Consumers.{who_at, SomeSafe, SafeFor}
use Rattle.lent.proofs.Consumers.{wants_in, wants_of_lem}
use Rattle.supports.specs.Supports.{Candidate, Danger, Unsettled, NoMay, Sight}
use Rattle.flaws.specs.declared.Repair.{Repair}
use Rattle.flaws.specs.declared.Repair.TheVariants.{Pair}
use Rattle.flaws.specs.declared.Choice.{Choice}
use Rattle.flaws.specs.declared.Choice.TheVariants.{Fine, Lost}
use Rattle.flaws.specs.declared.Scene.{Scene}
use Rattle.flaws.specs.Flaw.{Free, Picks, Eased, Sooner, Urgent, Pending, SceneOf, NoCandidate, OneLost, AllSafe, Interfering}

-- ── choices ──

module _ {s : List ℕ} where
  pub pick_fine : {X N : Type 0} → X → Picks s X N Fine
  pick_fine h = record { fine = λ e. h; lost = λ e. absurd (cc); repair = λ r e. absurd (cc) }

  pub pick_map : {X Y N M : Type 0} {c : Choice} → (X → Y) → (N → M) → Picks s X N c → Picks s Y M c
  pick_map f g q = record { fine = λ e. f (q.fine e); lost = λ e. g (q.lost e); repair = q.repair }

  -- a choice that is no flaw says nothing of a dead end, one that is a flaw nothing of what is so
  pub pick_none : {X N M : Type 0} {c : Choice} → c ≢ Lost → Picks s X N c → Picks s X M c
  pick_none n q = record { fine = q.fine; lost = λ e. absurd (n e); repair = q.repair }

  pub pick_not : {X Y N : Type 0} {c : Choice} → c ≢ Fine → Picks s X N c → Picks s Y N c
  pick_not n q = record { fine = λ e. absurd (n e); lost = q.lost; repair = q.repair }

  -- the sooner of two candidates is a choice as the second is
  pub pick_sooner : {X N M : Type 0} {best c r : Choice} → Sooner best c r → Picks s X N best → Picks s X M c → Picks s X M r
  pick_sooner (inl e) q t = rw e t
  pick_sooner (inr (e, n)) q t = rw e (pick_none n q)

  pub pick_urgent : {X Y N : Type 0} {best c r : Choice} → Urgent best c r → Picks s X N best → Picks s Y N c → Picks s (X × Y) N r
  pick_urgent (inl (e, n)) q t = rw e (pick_not n t)
  pick_urgent (inr (e, h)) q t = rw e (record { fine = λ z. (q.fine z, t.fine (h z)); lost = q.lost; repair = q.repair })

  pub pick_eased : {X N : Type 0} {c r : Choice} → Eased s c r → Picks s X N c → Picks s X N r
  pick_eased (inl e) q = rw e q
  pick_eased (inr (x, y, e, k, f)) q = rw k (record { fine = λ z. absurd (cc); lost = λ z. absurd (cc); repair = λ r z. (let q : Pair y x ≡ r = cc in subst (λ (p : Repair). Free s p) q f) })

-- ── one condition ──

-- no deleter is left before which the consumer is not surely over: Start is a safe support
pub start_safe : {P : Search} {s : List ℕ} {p b R : ℕ} → Pending P s p b R → StartMay P (view s) p (who_at b) → ((i : ℕ) → i < 24 → T (has R i) → T (has 0 i)) → SomeSafe P s p b
start_safe {s = s} {b = b} c m none = (
  start,
  record {
    given = m.given;
    clear = λ d k. ⊎_elim (λ x. x) (λ n. absurd (let j : d < 24 = omega (arith, c.few, k.below) in has_zero d (none d j (c.unsettled.at d j (record { killer = k; threat = n }))))) (T? (surely_done (view s) (who_at b) d));
  },
)

-- the words of one fact, as they are looked up
pub seen : {L : List ℕ} {P : Search} {s : List ℕ} {p b A K G C R : ℕ} → Lent L P → p < 64 → A ≡ adders_of L p → K ≡ killers_of L p
    → (Cols (Kills P.problem p) K 24 → Cols (Danger P s p b) G 24) → (Sight P s p b A G → Cols (Candidate P s p b) C 24) → (Cols (Kills P.problem p) K 24 → Cols (Unsettled P s p b) R 24)
    → Cols (Danger P s p b) G 24 × SceneOf P s p (record { by = b; cands = C; rest = R })
seen {P = P} {p = p} e l a k g f r =
    let t = e.listed in
    let z = subst (λ (x : ℕ). Cols (Kills P.problem p) x 24) (sym k) (t.killers p l) in
    (g z, record { cands = f (record { few = t.few; gives = rw a (t.adders p l); dangers = g z }); left = record { few = t.few; unsettled = r z } })

-- neither Start nor a job is a candidate
pub no_may : {P : Search} (s : List ℕ) {p : ℕ} (b : ℕ) → (StartMay P (view s) p (who_at b) → ⊥) → NoCandidate P s p b → NoMay P s p b
no_may s b n f start m = n m
no_may s b n f nobody m = m
no_may s b n f (by a) m = f a m

-- where the word of the candidates is empty there is none
pub no_job_lem : {P : Search} {s : List ℕ} {p : ℕ} {x : Scene} {w : ℕ} → SceneOf P s p x → Done (λ i. ⊥) x.cands w → w ≡ 0 → NoCandidate P s p x.by
no_job_lem k f e a m = done_all f e a (k.cands.at a (omega (arith, k.left.few, m.below)) m)

-- ── walks ──

-- the same where the claim itself asks that it be a member
pub done_own : {X : ℕ → Type 0} {all w : ℕ} → Done (λ i. T (has all i) → X i) all w → w ≡ 0 → (i : ℕ) → T (has all i) → X i
done_own f e i h = done_all f e i h h

-- ── a consumer ──

pub consumer_safe : {L : List ℕ} {P : Search} (s : List ℕ) (b : ℕ) {c : Choice} → Lent L P → b ≤ 24 → T (there (view s) (who_at b))
    → Picks s (AllSafe P s b (wants_of L b)) (OneLost P s b (wants_of L b)) c → Picks s (SafeFor P s b) (Dead P (view s)) c
consumer_safe {P = P} s b e l t = pick_map (λ f i p w. f p (wants_in e p b l w)) (λ z. rules.none_dead P e.listed.wf (view s) (who_at b) z.0 t (wants_of_lem e z.0 b l z.1) z.2)

-- ── two jobs that interfere ──

-- a job and the next of those that interfere with it
pub clash_next : {L : List ℕ} {P : Search} {a w i : ℕ} → Lent L P → a < 24 → Over 64 (hits_of L a) w → (w ≡ 0 → ⊥) → i ≡ least (has w) 64 → Interfering P a i
clash_next {a = a} {i = i} e l f n k = record { wf = e.listed.wf; meet = e.listed.clash a i l (over_here f n k) }
