use borrow.Author.Rules.{rules}
use native.Mathlib.Omega.{arith}
use Prim.Native.Nat.{ℕ, ◌-◌}
use mathlib.Core.Path.{ap}
use lib.Pow.{pow_pos}
use Rattle.facts.proofs.Digits.{one_shl}
use Rattle.opentable.proofs.Words.{bit_out}
use Rattle.opentable.proofs.squeezed.Goals as goal

pub overflow_sub-low : goal.overflow_sub-low
overflow_sub-low c = omega (arith, one_shl 32 c.args.k (search rules), pow_pos c.args.k)

pub returns : goal.returns
returns c = bit_out c.args.w c.args.k _ c.outside.result c.ranges.w.fits (search rules) (ap (λ (x : ℕ). x - 1) (one_shl 32 c.args.k (search rules))) c.outside.ensures
