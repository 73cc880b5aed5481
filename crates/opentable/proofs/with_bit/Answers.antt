use borrow.Author.Rules.{rules}
use mathlib.Core.Path.{sym, ap, subst, ◌∙◌}
use mathlib.Core.Bool.{Bool, not, ◌&&◌, cond}
use Prim.Native.Nat.{ℕ}
use lib.Bits.{bit_or}
use lib.Dec.{eqb}
use Rattle.facts.specs.Facts.{has}
use Rattle.readings.specs.Opening.{word_of}
use Rattle.facts.specs.Words.{Word}
use Rattle.opentable.proofs.Words.{bit_set, bit_cleared}
use Rattle.opentable.proofs.with_bit.Goals as goal

pub returns-then-flag : goal.returns-then-flag
returns-then-flag c = let a = c.args in
    ap (bit_or a.w) c.with-bit.ensures ∙ (bit_set a.w a.k c.ranges.w.fits (search rules) ∙ ap (λ (b : Bool). word_of (λ j. cond (eqb j a.k) b (has a.w j)) 32) (sym c.if-flag.true))

pub returns : goal.returns
returns c = let a = c.args in
    bit_cleared a.w a.k c.outside.result c.ranges.w.fits (subst (λ (x : ℕ). Word (λ j. has a.w j && not (has x j)) c.outside.result) c.with-bit.ensures c.outside.ensures) ∙ ap (λ (b : Bool). word_of (λ j. cond (eqb j a.k) b (has a.w j)) 32) (sym c.if-flag.false)
