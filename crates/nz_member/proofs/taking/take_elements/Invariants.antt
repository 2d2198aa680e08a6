use Rattle.std.proofs.Common.{map, take, length}
use Rattle.nz_member.specs.Amounts.{rows_of, AreAmounts, LeaveValues}
use Rattle.nz_member.proofs.taking.take_elements.Given as goal

abbrev pub invariant-loop-place : goal.invariant-loop-place
invariant-loop-place g l = LeaveValues (rows_of l.constraints) (take l.place l.hilbert) (map g.T.Scalar.integer l.fn.values.items) (map g.T.Scalar.integer l.counts.items) (map g.T.Scalar.integer l.values.items) × AreAmounts g.T.Scalar.fits (length (rows_of l.constraints)) (map g.T.Scalar.integer l.values.items)
