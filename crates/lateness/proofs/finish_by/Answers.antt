use mathlib.Core.Path.{ap}
use Prim.Native.Nat.{ℕ, ◌+◌, ◌*◌, ◌≤◌}
use native.Mathlib.Omega.{arith}
use native.Mathlib.Nat.{mul-le-mul}
use Rattle.lateness.proofs.Laws.{ready_bound, ready_one, within_bound, latest}
use Rattle.lateness.proofs.finish_by.Goals.{After-from}
use Rattle.lateness.proofs.finish_by.Goals as goal

-- both parts of the sum are small
spent : (c : After-from) → (c.settled_finish-last.result ≤ 2880) × (c.from.result * c.settled_finish-jobs.result ≤ 96 * 2880)
spent c =
    let a = c.args in
    let h = c.requires.0 in (
      within_bound a.l a.q h.0 a.pairs.now a.n a.set h.1 h.2 a.q.atoms _ a.l c.asked.ensures c.settled_finish-last.ensures,
      mul-le-mul {n₂ = 96} {m₂ = 2880} (omega (arith, c.from.ensures, c.requires.1))
          (within_bound a.l a.q h.0 a.pairs.now a.n a.set h.1 h.2 1 _ c.even_table.result c.asked-2.ensures c.settled_finish-jobs.ensures),
    )

pub settled_finish-last-requires : goal.settled_finish-last-requires
settled_finish-last-requires c =
    let a = c.args in
    let h = c.requires.0 in
    ready_bound a.l a.q h.0 a.pairs.now a.n a.set h.1 h.2 c.asked.ensures

pub settled_finish-jobs-requires : goal.settled_finish-jobs-requires
settled_finish-jobs-requires c =
    let a = c.args in
    let h = c.requires.0 in
    ready_one a.l a.q h.0 a.pairs.now a.n a.set h.1 h.2 c.even_table.ensures c.asked-2.ensures

pub overflow_mul-result : goal.overflow_mul-result
overflow_mul-result c = omega (arith, (spent c).1)

pub overflow_add-result : goal.overflow_add-result
overflow_add-result c = omega (arith, (spent c).0, (spent c).1)

pub returns : goal.returns
returns c s k h =
    let a = c.args in
    let last = c.settled_finish-last in
    let jobs = c.settled_finish-jobs in
    latest a.l a.q s a.pairs.now a.n a.set k h a.most _ _ c.asked.ensures c.even_table.ensures c.asked-2.ensures
    last.ensures jobs.ensures (ap (λ (x : ℕ). last.result + x * jobs.result) c.from.ensures)
