use Rattle.nz_range.proofs.Causes.{value_for}
use Rattle.nz_pointed.proofs.RangeLemmas.{contains_at}
use Rattle.nz_pointed.proofs.clearing.first_nonzero.Goals as goal

pub returns-in-None : goal.returns-in-None
returns-in-None g c = value_for g.T.Scalar.HALF g.T.Scalar.fits g.met.T.Scalar.room c.args.form.now c.index-rows-place.result c.args.rows.now (contains_at c.args.rows.now c.loop-place.place c.index-rows-place.result c.loop-place-test.true c.index-rows-place.is) c.in-None.ensures
