use native.Mathlib.Omega.{arith}
use mathlib.Core.Path.{sym, subst}
use Prim.Native.Nat.{◌<◌}
use lib.Dec.{T}
use Rattle.facts.specs.Facts.{has}
use Rattle.facts.proofs.Bools.{and_of}
use Rattle.facts.proofs.Sets.{has_and}
use Rattle.facts.proofs.Walks.{done_none, done_next, done_all, over_both, over_next}
use Rattle.cells.specs.View.{word_at, ins}
use Rattle.lent.specs.Lent.{hits_of}
use Rattle.lent.specs.Consumers.{Ordered}
use Rattle.flaws.proofs.Flaws.{clash_next, pick_fine, pick_map, pick_urgent}
use Rattle.flaws.proofs.mutex_row.Goals as goal

pub loop-b-init : goal.loop-b-init
loop-b-init c =
    let a = c.args in
    rw (c.into_iter-b-iterator.ensures.into_iter_gives, c.each-b-items.ensures, c.hits.ensures, c.insides.ensures)
    (over_both (hits_of a.t.now a.a) (word_at a.s.now ins) (omega arith), λ P e. rw c.foremost-best.ensures (pick_fine done_none))

pub loop-b-preserved : goal.loop-b-preserved
loop-b-preserved c =
    let i = c.loop-b.invariant in
    let s = c.in-Some.ensures.steps in (
      over_next i.0 s.2,
      λ P e.
          pick_map (λ x. done_next x.0 s.2 (rw s.1 at x.1)) (λ n. n)
          (pick_urgent c.urgent-best.ensures (i.1 P e) (c.threat.ensures P (clash_next e (omega arith) i.0 (λ z. omega arith) s.1))),
    )

pub returns : goal.returns
returns c P e =
    let a = c.args in
    let h = hits_of a.t.now a.a in
    let w = word_at a.s.now ins in
    pick_map (λ f l b k x i j. done_all {X = λ b. b < 24 → Ordered a.s.now a.a b} f c.in-None.ensures.steps b (subst T (sym (has_and h w b)) (and_of (has h b) (has w b) x j)) k i j) (λ n. n) (c.loop-b.invariant.1 P e)
