-- The promise leaves one result.
-- Assumes nothing.
use mathlib.Core.Path.{◌≡◌, sym, ap, ◌∙◌}
use mathlib.Core.Bool.{false}
use mathlib.Core.List.{List}
use Prim.Native.Nat.{ℕ}
use native.Mathlib.Omega.{arith}
use native.Mathlib.Decide.{ℕ_discrete}
use lib.Dec.{ltb}
use Rattle.refusals.specs.Refusals.{accepted}
use Rattle.refusals.proofs.Refused.{Checks, if_checks, then_checks, both}
use Rattle.rules.specs.Plans.{starts}
use Rattle.rules.specs.Lateness.{overrun_check}
use Rattle.rules.proofs.Late.{latest_only}
use Rattle.tables.specs.declared.Loaded.{Loaded}
use Rattle.tables.specs.declared.Answer.{Answer}
use Rattle.tables.specs.Tables.{problem, answer_of}
use Rattle.tables.proofs.Laws.{accepts, answer_no}
use Rattle.verdict.specs.Offered.{offered}
use Rattle.verdict.specs.Steps.{Sound}
use Rattle.verdict.proofs.Accepted.{offered_checks, sound}
use Rattle.lateness.specs.declared.Overruns.{Overruns}
use Rattle.lateness.specs.Lateness.{late_verdict, HowLate}

module _ (l : Loaded) (o : Overruns) (s : List ℕ) where
  pub late_checks : Checks (λ v. offered false l o.ask s (overrun_check o.most v))
  unfolding overrun_check
  late_checks = then_checks (offered_checks false l o.ask s) (if_checks (ltb 96 o.most) 34 0 (omega arith))

  -- where nothing is refused the plan is in order
  pub in_order : late_verdict l o s ≡ accepted → Sound false l o.ask s
  in_order c = sound false l o.ask s (both (overrun_check o.most accepted) (offered_checks false l o.ask s) c).0

  pub how_late_only : (r r' : Answer) → HowLate l o s r → HowLate l o s r' → r ≡ r'
  how_late_only r r' f g = go (ℕ_discrete (late_verdict l o s).number 0)
    where
      go : Dec ((late_verdict l o s).number ≡ 0) → r ≡ r'
      go (no n) = f.says ∙ answer_no (late_verdict l o s) f.t g.t 0 n ∙ sym g.says
      go (yes z) =
          let c = accepts late_checks z in
          let e = latest_only (problem l o.ask) (in_order c).clear.order o.ask.bound (starts s) o.most f.t g.t (f.behind c) (g.behind c) in
          f.says ∙ ap (λ (t : ℕ). answer_of (late_verdict l o s) t 0) e ∙ sym g.says
