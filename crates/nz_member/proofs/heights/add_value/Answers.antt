use Rattle.nz_member.proofs.Multiples.{fits_dot}
use Rattle.nz_member.proofs.AmountSteps.{row_fits}
use Rattle.nz_member.proofs.heights.add_value.Goals as goal

pub returns-in-Ok-clause-fit : goal.returns-in-Ok-clause-fit
returns-in-Ok-clause-fit g c = row_fits g.T.Scalar.integer g.T.Scalar.fits c.args.constraint.now _ c.args.x.now c.in-NotNegative.is (fits_dot g.T.Scalar.fits _ _ g.met.T.Scalar.room.zero_fits c.in-Some.ensures.0)
