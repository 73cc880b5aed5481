use Rattle.page.proofs.Pages.{plan_pairs}
use Rattle.lines.proofs.Laws.{lays_then, lays_fit}
use Rattle.page.specs.Page.{plan_text}
use mathlib.Core.List.{[]}
use mathlib.Core.Path.{refl}
use native.Mathlib.Omega.{arith}
use Rattle.bindings.proofs.Count.{pairs_room}
use Rattle.tables.specs.Tables.{problem, filled}
use Rattle.rules.specs.Pairs.{pair_bytes}
use Rattle.rules.specs.Plans.{starts}
use borrow.Author.Rules.{rules}
use Rattle.page.proofs.put_plan.Goals as goal

pub put_pairs-n-requires : goal.put_pairs-n-requires
put_pairs-n-requires c = let a = c.args in let h = pairs_room (problem a.l a.q) (starts a.s.now) c.requires.1 c.requires.0.0 in (c.requires.0, search rules)

pub put_pairs-requires : goal.put_pairs-requires
put_pairs-requires c = let a = c.args in let h = pairs_room (problem a.l a.q) (starts a.s.now) c.requires.1 c.requires.0.0 in (search rules, omega (arith, h, c.put_pairs-n.ensures.next, c.put_jobs-second.ensures.next, c.put_jobs-second.ensures.fits, c.put_least-first.ensures.next, c.put_least-first.ensures.fits))

pub returns : goal.returns
unfolding plan_text filled
returns c =
    let a = c.args in
    let ps = pair_bytes (problem a.l a.q) (starts a.s.now) in
    let h = pairs_room (problem a.l a.q) (starts a.s.now) c.requires.1 c.requires.0.0 in
    let n = c.put_pairs-n.ensures.next in
    let w = c.put_pairs-n.ensures.list [] _ refl refl in
    let y = lays_then (search rules) c.put_least-first.ensures (lays_then (search rules) c.put_jobs-second.ensures (plan_pairs ps _ n w (omega arith) c.put_pairs.ensures)) in
    lays_fit y (omega (arith, y.fits, h))
