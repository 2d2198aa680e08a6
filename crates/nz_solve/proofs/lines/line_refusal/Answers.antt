use Rattle.nz_solve.proofs.RangeLemmas.{line_reckoned}
use Rattle.nz_solve.proofs.lines.line_refusal.Goals as goal

pub returns-in-Err : goal.returns-in-Err
returns-in-Err g c = line_reckoned g.T.Scalar.fits c.args.told c.args.base.now c.args.line.now c.in-Err.refusal c.counted.result c.in-Err.ensures.cause c.counted.ensures
