use Rattle.nz_sweep.proofs.BottomCauses.{unit_times}
use Rattle.nz_sweep.proofs.bottom.start.Goals as goal

pub returns-in-Ok : goal.returns-in-Ok
returns-in-Ok g c = unit_times g.T.Scalar.HALF g.T.Scalar.fits g.met.T.Scalar.room c.args.width c.args.column (g.T.Scalar.integer c.args.sign) c.in-Ok.unit c.times.result c.requires c.in-Ok.ensures c.times.ensures
