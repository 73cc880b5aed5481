use Rattle.outset.proofs.Strong.{released, sets_out, together}
use Rattle.outset.proofs.set_out.Goals as goal

pub estimate_all-requires : goal.estimate_all-requires
estimate_all-requires c = (c.requires.0, released c.args.l c.args.q c.requires.1 c.reachable-s.result.rows c.reachable-s.ensures c.e_table-table.result c.e_table-table.ensures c.requires.2)

pub returns-then-not-fits : goal.returns-then-not-fits
returns-then-not-fits c =
    let lists = c.listed-tables in
    let wait = c.all_wait-est in
    let e = c.estimate_all in
    let s = c.reachable-s in (
      sets_out c.args.l c.args.q c.requires.1 s.result.rows s.ensures c.e_table-table.result c.e_table-table.ensures e.result wait.result lists.result _ _
          c.requires.0 c.requires.2 e.ensures wait.ensures lists.ensures c.put_waits.ensures c.put_leads.ensures,
      λ bound. together c.args.l c.args.q c.requires.1 s.result.rows s.ensures bound (c.fits.ensures.nay c.if-not-fits.true),
    )

pub returns : goal.returns
returns c =
    let lists = c.listed-tables in
    let wait = c.all_wait-est in
    let e = c.estimate_all in
    let s = c.reachable-s in
    sets_out c.args.l c.args.q c.requires.1 s.result.rows s.ensures c.e_table-table.result c.e_table-table.ensures e.result wait.result lists.result _ _
    c.requires.0 c.requires.2 e.ensures wait.ensures lists.ensures c.put_waits.ensures c.put_leads.ensures
