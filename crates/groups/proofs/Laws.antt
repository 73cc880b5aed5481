-- Laws of words of which one job is in.
-- Assumes nothing.
use mathlib.Core.Path.{◌≡◌, subst}
use mathlib.Core.Logic.{⊎_elim}
use mathlib.Core.Bool.{Bool, false}
use mathlib.Core.List.{List}
use Prim.Native.Nat.{ℕ, ◌≤◌, ◌<◌}
use native.Mathlib.Omega.{arith}
use lib.Dec.{T}
use Rattle.facts.specs.Facts.{has}
use Rattle.facts.specs.Words.{Decides}
use Rattle.facts.proofs.Sets.{has_zero, some_fact}
use Rattle.rules.specs.Premises.{InOrder}
use Rattle.rules.specs.Supports.{Support, start, nobody, by, Who}
use Rattle.rules.proofs.Supported.{Supports}
use Rattle.states.specs.State.{Search, HasJob, St, NeedsFact, there, consumer_in, StartMay, JobMay, May}
use Rattle.states.proofs.Rules as rules
use Rattle.cells.specs.View.{view}
use Rattle.jobs.specs.Jobs.{Noted}
use Rattle.lent.specs.Lent.{Cols, Kills, adders_of, killers_of, wants_of, Lent}
use Rattle.lent.specs.Consumers.{who_at}
use Rattle.lent.proofs.Consumers.{wants_of_lem}
use Rattle.supports.specs.Supports.{Danger, Candidate, Sight}
use Rattle.groups.specs.OneOf.{SomeOf, OneIn}

-- a job alone, if it is inside
pub chosen_alone : (P : Search) (s : List ℕ) (j : ℕ) {r : ℕ} → Noted (T ((view s).inside j)) j 0 r → OneIn P s r
chosen_alone P s j {r} x n Q l =
    let i = some_fact r n in
    ⊎_elim (λ h. absurd (has_zero i.0 h)) (λ y. (j, subst (λ (k : ℕ). T (has r k)) y.0 i.1, l.fits.stays.inside j y.2)) (x.of i.0 i.1)

-- all candidates of a fact that is wanted, where Start is none
some_candidate : (P : Search) (s : St) → InOrder P.problem → (c : Who) (p w : ℕ) → T (there s c) → NeedsFact P c p → (StartMay P s p c → ⊥) → ((a : ℕ) → JobMay P s p c a → T (has w a)) → SomeOf P s w
some_candidate P s wf c p w i n h f Q l = go (rules.some P wf s Q l c p (rules.wanted P wf s Q l c i) n)
  where
    go : (x : Support) × Supports P.problem Q p (consumer_in P Q c) x × May P s p c x → (a : ℕ) × T (has w a) × HasJob P Q a
    go (start, o, m) = absurd (h m)
    go (nobody, o, m) = absurd m
    go (by a, g, m) = (a, f a m, g.there)

pub chosen_candidates : {L s : List ℕ} {b p : ℕ} (l : (b ≤ 24) × (p < 64)) {kills adders dang w : ℕ} {may : Bool}
    → kills ≡ killers_of L p → adders ≡ adders_of L p
    → ((P : Search) (p : ℕ) → Cols (Kills P.problem p) kills 24 → Cols (Danger P s p b) dang 24)
    → ((P : Search) (p : ℕ) → Sight P s p b adders dang → Cols (Candidate P s p b) w 24)
    → ((P : Search) (s : List ℕ) (b : ℕ) → Lent L P → Cols (Danger P s p b) dang 24 → Decides may (StartMay P (view s) p (who_at b)))
    → may ≡ false → T (has (wants_of L b) p) → T (there (view s) (who_at b)) → (P : Search) → Lent L P → OneIn P s w
chosen_candidates {L} {s} {b} {p} l {kills} {adders} {dang} {w} ek ea fd fc fm z h i P e n =
    let k : Cols (Kills P.problem p) kills 24 = rw ek (e.listed.killers p l.1) in
    let d = fd P p k in
    let c = fc P p (record { few = e.listed.few; gives = rw ea (e.listed.adders p l.1); dangers = d }) in
    some_candidate P (view s) e.listed.wf (who_at b) p w i (wants_of_lem e p b l.0 h) ((fm P s b e d).nay z) (λ a m. c.at a (omega (arith, m.below, e.listed.few)) m)
