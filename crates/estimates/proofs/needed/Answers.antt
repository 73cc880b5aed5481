use Rattle.std.proofs.Common.{rules, ◌≡◌, ℕ, [], ◌∷◌, subst, arith}
use mathlib.Core.Path.{refl, sym}
use lib.Bits.{bit_or}
use Rattle.std.specs.List.{fold, range_with_len}
use Rattle.std.proofs.lemmas.Fn.{fold_over}
use Rattle.std.proofs.lemmas.List.Sums.{fold-append}
use Rattle.std.proofs.iter.Yields.{nat_range_steps}
use Rattle.std.proofs.lemmas.Iterator.{YieldsList-from_range}
use Rattle.tables.specs.Tables.{job_at}
use Rattle.estimates.proofs.Gathered.{Gathered, gathered}
use Rattle.estimates.proofs.needed.Goals as goal

pub returns : goal.returns
returns c =
    let n = c.args.q.jobs in
    let both : ℕ → ℕ → ℕ = λ all i. bit_or all (job_at c.args.l i).conditions in
    let step = fold-append both 0 in
    subst (Gathered (λ i. (job_at c.args.l i).conditions) n)
    (sym (fold_over nat_range_steps (λ x. x) _ (λ ys a. a ≡ fold both 0 ys) _ (λ ys a x b f' j k. let more = step ys (x ∷ []) in (search rules, search rules)) (record { start = 0; end = n }) (range_with_len 0 n) _ _ (YieldsList-from_range 0 n n refl (omega arith)).runs refl c.fold.ensures.ran))
    (gathered (λ i. (job_at c.args.l i).conditions) n)
