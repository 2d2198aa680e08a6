use Rattle.std.proofs.Common.{arith}
use Rattle.nz_lift.proofs.DirectionLemmas.{no_level}
use Rattle.nz_lift.proofs.directions.with_levels.Goals as goal

pub returns-in-None : goal.returns-in-None
returns-in-None g c = λ e. no_level g.T.Scalar.HALF g.T.Scalar.fits g.met.T.Scalar.room c.args.level.now c.at-vector.result.now c.args.vectors.now c.loop-place.place (omega (arith, c.loop-place-test.true, c.len-place-end.ensures)) c.at-vector.ensures c.in-None.ensures
