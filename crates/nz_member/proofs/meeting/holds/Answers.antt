use Rattle.std.proofs.Common.{sym, subst}
use Rattle.nz_member.proofs.Multiples.{fits_dot}
use Rattle.nz_member.proofs.meeting.holds.Goals as goal

pub is_multiple-requires-clause-value : goal.is_multiple-requires-clause-value
is_multiple-requires-clause-value g c = subst g.T.Scalar.fits (sym c.in-Some-dot.ensures.1) (fits_dot g.T.Scalar.fits _ _ g.met.T.Scalar.room.zero_fits c.in-Some-dot.ensures.0)
