use Rattle.std.proofs.Common.{rules}
use Prim.Native.Nat.{ℕ}
use lib.ListN.{get_or}
use Rattle.facts.specs.Facts.{has}
use Rattle.facts.specs.Least.{any}
use Rattle.facts.proofs.Passing.{passing_at}
use Rattle.bindings.proofs.givers.Goals as goal

pub returns : goal.returns
returns c =
    let g = λ (a : ℕ). any (has (get_or c.args.row.by a 0)) 64 in
    λ k h. passing_at g c.args.n c.those.result k (c.those.ensures.word g (λ i l b h. search rules)) h
