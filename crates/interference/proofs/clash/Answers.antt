use native.Mathlib.Omega.{arith}
use Rattle.facts.proofs.Least.{first_some, first_none}
use Rattle.rules.specs.Clashes.{spoils, on_condition, on_addition}
use Rattle.interference.specs.Records.{record_masks}
use Rattle.interference.proofs.Laws.{by_condition, by_addition, by_none}
use Rattle.interference.proofs.clash.Goals as goal

pub overflow_cast-result : goal.overflow_cast-result
unfolding spoils
overflow_cast-result c =
    let f = on_condition (record_masks c.args.a) (record_masks c.args.b) in
    omega (arith, (first_some f 64 c.first_spoilt.ensures c.in-Some.is).1)

pub returns-in-Some : goal.returns-in-Some
unfolding spoils
returns-in-Some c =
    let a = record_masks c.args.a in
    let b = record_masks c.args.b in
    let x = first_some (on_condition a b) 64 c.first_spoilt.ensures c.in-Some.is in
    by_condition a b x.0 x.1

pub overflow_cast-result-in-Some-first_spoilt : goal.overflow_cast-result-in-Some-first_spoilt
unfolding spoils
overflow_cast-result-in-Some-first_spoilt c =
    let f = on_addition (record_masks c.args.a) (record_masks c.args.b) in
    omega (arith, (first_some f 64 c.first_spoilt-2.ensures c.in-Some-first_spoilt.is).1)

pub returns-in-Some-first_spoilt : goal.returns-in-Some-first_spoilt
unfolding spoils
returns-in-Some-first_spoilt c =
    let a = record_masks c.args.a in
    let b = record_masks c.args.b in
    let x = first_some (on_addition a b) 64 c.first_spoilt-2.ensures c.in-Some-first_spoilt.is in
    by_addition a b (first_none (on_condition a b) 64 c.first_spoilt.ensures c.in_default.is) (omega arith) x.0 x.1

pub returns : goal.returns
unfolding spoils
returns c =
    let a = record_masks c.args.a in
    let b = record_masks c.args.b in
    by_none a b (first_none (on_condition a b) 64 c.first_spoilt.ensures c.in_default.is) (omega arith) (first_none (on_addition a b) 64 c.first_spoilt-2.ensures c.in_default-first_spoilt.is) (omega arith)
