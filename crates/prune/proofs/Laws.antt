-- Laws of the pruning by supports.
-- Assumes nothing.
use mathlib.Core.Path.{◌≡◌, refl, subst, ap}
use mathlib.Core.Logic.{◌≢◌}
use mathlib.Core.Bool.{Bool, false}
use mathlib.Core.List.{List}
use Prim.Native.Nat.{ℕ, ◌+◌, ◌≤◌, ◌<◌}
use native.Mathlib.Omega.{arith}
use lib.Dec.{T}
use Rattle.facts.specs.Facts.{has}
use Rattle.facts.specs.Words.{Decides}
use Rattle.facts.proofs.Sets.{has_zero}
use Rattle.rules.specs.Premises.{InOrder}
use Rattle.rules.specs.Supports.{Support, start, nobody, by, Who, task, goal}
use Rattle.states.specs.State.{Search, Spaced, St, More, Dead, Must, MustNot, Sure, Low, NeedsFact, there, surely_late, useless, Killer, StartMay, JobMay, May, Forced, ForcedStart}
use Rattle.states.proofs.Keep.{left_back}
use Rattle.states.proofs.Rules as rules
use Rattle.cells.specs.View.{view}
use Rattle.lent.specs.Lent.{Cols, Kills, wants_of, adders_of, killers_of, wait_of, Lent}
use Rattle.lent.specs.Consumers.{who_at}
use Rattle.lent.proofs.Laws.{wait_of_lem}
use Rattle.lent.proofs.Consumers.{who_job, other_who, wants_of_lem}
use Rattle.supports.specs.Supports.{Danger, Candidate, Sight, NoMay}
use Rattle.prune.specs.Prune.{Lost, Killers, Spared, Begun, LeastEnd, AllCandidates, Awaits, OnlyOne, OnlyStart}
use Rattle.jobs.specs.Jobs.{OnlyJob}

-- ── no candidate ──

module _ {P : Search} (wf : InOrder P.problem) {s : List ℕ} {b : ℕ} (x : Lost s b P) where
  pub lost_end : b ≡ 24 → Dead P (view s)
  lost_end e = rules.none_dead P wf (view s) goal x.p tt (rw e at x.wants) (rw e at x.none)

  pub lost_job : b < 24 → MustNot P (view s) b
  lost_job l = rules.none_bars P wf (view s) b x.p (subst (λ (v : Who). NeedsFact P v x.p) (who_job b l) x.wants) (subst (λ (v : Who). (y : Support) → May P (view s) x.p v y → ⊥) (who_job b l) x.none)

-- ── a support that is forced ──

there_more : (s t : St) (w : Who) → More s t → T (there s w) → T (there t w)
there_more s t (task b) m h = m.inside b h
there_more s t goal m h = h

pub spared_more : {s t : List ℕ} {b a kills : ℕ} (P : Search) → Spared s b a kills P → More (view s) (view t) → Spared t b a kills P
spared_more {s} {t} {b} P x m = record { p = x.p; here = there_more (view s) (view t) (who_at b) m x.here; forced = λ Q l. x.forced Q (left_back m l); killers = x.killers }

module _ {P : Search} (wf : InOrder P.problem) {s : List ℕ} {b a kills : ℕ} (x : Spared s b a kills P) where
  abbrev of_job : b < 24 → Forced P (view s) (task b) x.p a
  of_job l = subst (λ (v : Who). Forced P (view s) v x.p a) (who_job b l) x.forced

  pub spare_first : (d : ℕ) → T (has kills d) → d ≢ b → T (surely_late (view s) (who_at b) d) → Sure P (view s) d a
  spare_first d k n h = rules.forced_first P wf (view s) (who_at b) x.p a x.here x.forced d (x.killers d k) (other_who b d n) h

  pub spare_after : b < 24 → (d : ℕ) → T (has kills d) → d ≢ b → T ((view s).never d a) → Sure P (view s) b d
  spare_after l d k n h = rules.forced_after P wf (view s) b x.p a (of_job l) d (x.killers d k) n h

  pub spare_in : Must P (view s) a
  spare_in = rules.forced_must P wf (view s) (who_at b) x.p a x.here x.forced

pub begun_more : {s t : List ℕ} {b kills : ℕ} (P : Search) → Begun s b kills P → More (view s) (view t) → Begun t b kills P
begun_more P x m = record { p = x.p; forced = λ Q l. x.forced Q (left_back m l); killers = x.killers }

module _ {P : Search} (wf : InOrder P.problem) {s : List ℕ} {b kills : ℕ} (x : Begun s b kills P) (d : ℕ) (k : T (has kills d)) where
  pub begun_before : b < 24 → d ≢ b → Sure P (view s) b d
  begun_before l n = rules.start_before P wf (view s) b x.p (subst (λ (v : Who). ForcedStart P (view s) v x.p) (who_job b l) x.forced) d (x.killers d k) n

-- ── walks ──

-- behind job a, b starts at m or later
abbrev pub Ends : (s L : List ℕ) (b m a : ℕ) → Type 0
Ends s L b m a = a < 24 → m ≤ (view s).lo a + wait_of L a b

-- ── from candidates to a forced support ──

pub awaits_low : {P : Search} {L s : List ℕ} {b w r : ℕ} → InOrder P.problem → Awaits L s b w P → b < 24 → LeastEnd s L w b r → Low P (view s) b r
awaits_low {P} {L} {s} {b} {w} {r} wf x l f =
    let t = x.told in
    rules.waits P wf (view s) b t.p r (λ a. wait_of L a b)
    (subst (λ (v : Who). NeedsFact P v t.p) (who_job b l) t.wants)
    (subst (λ (v : Who). StartMay P (view s) t.p v → ⊥) (who_job b l) x.late)
    (subst (λ (v : Who). (a : ℕ) → JobMay P (view s) t.p v a → Spaced a b (wait_of L a b) P × (r ≤ (view s).lo a + wait_of L a b)) (who_job b l)
    (λ a m. (wait_of_lem x.lent a b, f a (omega (arith, m.below, x.lent.listed.few)) (t.all a m))))

no_bit : {w : ℕ} (a : ℕ) → w ≡ 0 → T (has w a) → ⊥
no_bit a e h = has_zero a (subst (λ (v : ℕ). T (has v a)) e h)

pub only_spared : {P : Search} {s : List ℕ} {b w kills a : ℕ} → InOrder P.problem → OnlyOne s b w kills P → OnlyJob w a → T (there (view s) (who_at b)) → Spared s b a kills P
only_spared {P} {s} {b} {w} {kills} {a} wf x o h = let t = x.told in record { p = t.p; here = h; forced = rules.only_job P wf (view s) (who_at b) t.p h t.wants a only; killers = x.killers }
  where
    only : (y : Support) → May P (view s) x.told.p (who_at b) y → y ≡ by a
    only start m = absurd (x.late m)
    only nobody m = absurd m
    only (by c) m = ap by (o.only c (x.told.all c m))

pub only_begun : {P : Search} {s : List ℕ} {b w kills : ℕ} → InOrder P.problem → OnlyStart s b w kills P → w ≡ 0 → T (there (view s) (who_at b)) → Begun s b kills P
only_begun {P} {s} {b} wf x e h = let t = x.told in record { p = t.p; forced = rules.only_start P wf (view s) (who_at b) t.p h t.wants only; killers = x.killers }
  where
    only : (y : Support) → May P (view s) x.told.p (who_at b) y → y ≡ start
    only start m = refl
    only nobody m = absurd m
    only (by c) m = absurd (no_bit c e (x.told.all c m))

-- ── a candidate of what says more is one of what says less ──

late_more : (s t : St) (w : Who) (d : ℕ) → More s t → T (surely_late s w d) → T (surely_late t w d)
late_more s t (task b) d m h = m.never b d h
late_more s t goal d m h = h

useless_more : (s t : St) (a : ℕ) (w : Who) → More s t → T (useless s a w) → T (useless t a w)
useless_more s t a (task b) m h = m.never a b h
useless_more s t a goal m h = h

module _ {P : Search} {s t : St} (m : More s t) (p : ℕ) (w : Who) where
  killer_more : (d : ℕ) → Killer P s p w d → Killer P t p w d
  killer_more d k = record { below = k.below; in? = m.inside d k.in?; kills = k.kills; other = k.other }

  start_back : StartMay P t p w → StartMay P s p w
  start_back x = record { given = x.given; clear = λ d k h. x.clear d (killer_more d k) (late_more s t w d m h) }

  job_back : (a : ℕ) → JobMay P t p w a → JobMay P s p w a
  job_back a x = record {
    below = x.below;
    gives = x.gives;
    free = λ h. x.free (m.barred a h);
    other = x.other;
    before = λ h. x.before (useless_more s t a w m h);
    clear = λ d k n h. x.clear d (killer_more d k) (m.never d a n) (late_more s t w d m h);
  }

pub only_more : {s t : List ℕ} {b w kills : ℕ} (P : Search) → OnlyOne s b w kills P → More (view s) (view t) → OnlyOne t b w kills P
only_more {b = b} P x m = let p = x.told.p in record {
  told = record { p = p; wants = x.told.wants; all = λ a y. x.told.all a (job_back m p (who_at b) a y) };
  late = λ y. x.late (start_back m p (who_at b) y);
  killers = x.killers;
}

-- ── what the words of a fact say of it ──

pub record Seen (L s : List ℕ) (b w kills : ℕ) (may : Bool) (P : Search) : Type 0 where
  pub lent : Lent L P
  pub told : AllCandidates s b w P
  pub killers : Killers P told.p kills
  pub begin : Decides may (StartMay P (view s) told.p (who_at b))

module _ {L s : List ℕ} {b p : ℕ} (l : (b ≤ 24) × (p < 64)) (h : T (has (wants_of L b) p)) {kills adders dang w : ℕ} {may : Bool} where
  pub seen : kills ≡ killers_of L p → adders ≡ adders_of L p
      → ((P : Search) (p : ℕ) → Cols (Kills P.problem p) kills 24 → Cols (Danger P s p b) dang 24)
      → ((P : Search) (p : ℕ) → Sight P s p b adders dang → Cols (Candidate P s p b) w 24)
      → ((P : Search) (s : List ℕ) (b : ℕ) → Lent L P → Cols (Danger P s p b) dang 24 → Decides may (StartMay P (view s) p (who_at b)))
      → (P : Search) → Lent L P → Seen L s b w kills may P
  seen ek ea fd fc fm P e =
      let k : Cols (Kills P.problem p) kills 24 = rw ek (e.listed.killers p l.1) in
      let d = fd P p k in
      let c = fc P p (record { few = e.listed.few; gives = rw ea (e.listed.adders p l.1); dangers = d }) in
      record {
        lent = e;
        told = record { p = p; wants = wants_of_lem e p b l.0 h; all = λ a m. c.at a (omega (arith, m.below, e.listed.few)) m };
        killers = λ a y. (k.of a y).1.1;
        begin = fm P s b e d;
      }

module _ {L s : List ℕ} {b w kills : ℕ} {may : Bool} {P : Search} (x : Seen L s b w kills may P) where
  pub seen_start : OnlyStart s b w kills P
  seen_start = record { told = x.told; killers = x.killers }

  pub seen_one : may ≡ false → OnlyOne s b w kills P
  seen_one e = record { told = x.told; late = x.begin.nay e; killers = x.killers }

  pub seen_waits : may ≡ false → Awaits L s b w P
  seen_waits e = record { lent = x.lent; told = x.told; late = x.begin.nay e }

  pub seen_none : may ≡ false → w ≡ 0 → Lost s b P
  seen_none e z = record { p = x.told.p; wants = x.told.wants; none = none }
    where
      none : NoMay P s x.told.p b
      none start m = x.begin.nay e m
      none nobody m = m
      none (by a) m = no_bit a z (x.told.all a m)
