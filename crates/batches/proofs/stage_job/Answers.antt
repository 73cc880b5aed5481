use mathlib.Core.Path.{refl, subst}
use mathlib.Core.Bool.{◌&&◌, ◌||◌}
use Prim.Native.Nat.{ℕ, ◌+◌, ◌-◌}
use lib.Dec.{eqb, ltb}
use Rattle.facts.specs.Facts.{has}
use Rattle.facts.specs.Words.{Word}
use Rattle.batches.proofs.Jobs.{word_from, word_then}
use Rattle.batches.proofs.stage_job.Goals as goal

pub returns : goal.returns
returns c =
    let a = c.args in
    let bay = word_from (λ p. a.s.bay && eqb p 0) c.with_if-bay.result c.with_if-bay.ensures in
    record {
      needed = word_then (λ p. a.s.bay && eqb p 0) (λ p. ltb 0 a.i && eqb p (a.first + (a.i - 1))) c.with_if-bay.result c.with_if.result bay
          (subst (λ (f : ℕ). Word (λ p. has c.with_if-bay.result p || (ltb 0 a.i && eqb p (a.first + f))) c.with_if.result) c.saturating_sub.ensures c.with_if.ensures);
      added = word_from (λ p. eqb p (a.first + a.i)) c.with.result c.with.ensures;
      deleted = bay;
      lasts = refl;
      free = refl;
    }
