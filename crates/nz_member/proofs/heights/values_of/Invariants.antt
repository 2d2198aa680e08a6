use Rattle.std.proofs.Common.{map, take}
use Rattle.nz_member.specs.Amounts.{rows_of, AreValues}
use Rattle.nz_member.proofs.heights.values_of.Given as goal

abbrev pub invariant-loop-place : goal.invariant-loop-place
invariant-loop-place g l = AreValues g.T.Scalar.fits (rows_of (take l.place l.constraints)) l.x (map g.T.Scalar.integer l.values.items)
