use Rattle.std.proofs.Common.{arith}
use Rattle.nz_rays.proofs.RangeLemmas.{large_by_value}
use Rattle.nz_rays.proofs.cutting.values_at.Goals as goal

pub returns-in-None : goal.returns-in-None
returns-in-None g c = λ e. large_by_value g.T.Scalar.HALF g.T.Scalar.fits g.met.T.Scalar.room c.args.form.now c.args.rays.now c.loop-place.place c.at.result.now (omega (arith, c.loop-place-test.true, c.len-place-end.ensures)) c.at.ensures c.in-None.ensures
