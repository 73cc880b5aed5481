use Rattle.std.proofs.Common.{rules, ◌≡◌, arith}
use Rattle.facts.proofs.Arrays.{made}
use Rattle.outset.specs.Outset.{Upto, Stands}
use Rattle.outset.proofs.listed.Goals as goal

pub returns : goal.returns
returns c =
    let a = c.args in
    λ i h. (made _ _ _ 853 (λ i y. Upto i 228 (Stands a.l a.q a.est i y) (y ≡ 0)) (λ i y q l k. (search rules, search rules)) c.from_fn.ensures.items i 0 (omega arith)).here h
