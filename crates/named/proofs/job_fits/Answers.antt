use Rattle.named.proofs.Blocks.{job_of, job_none}
use Rattle.named.proofs.job_fits.Goals as goal

pub returns-then-over_by : goal.returns-then-over_by
returns-then-over_by c =
    let a = c.args in
    job_of a.l a.q a.s.now a.c a.a _ _ c.over_by.ensures c.if-over_by.true c.gap.ensures (rw c.from.ensures at c.blocked.ensures) c.less.ensures

pub returns : goal.returns
returns c = job_none c.args.l c.args.q c.args.s.now c.args.c c.args.a c.over_by.ensures c.if-over_by.false
