use Rattle.distances.proofs.Rows as rows
use Rattle.distances.proofs.lacks.Goals as goal

pub returns : goal.returns
returns c = rows.lacks c.args.w c.ranges.w.fits
