use Rattle.std.proofs.Common.{◌≡◌, map, take}
use Rattle.nz_member.proofs.leftover.are_same.Given as goal

abbrev pub invariant-loop-place : goal.invariant-loop-place
invariant-loop-place g l = take l.place (map g.T.Scalar.integer l.a) ≡ take l.place (map g.T.Scalar.integer l.b)
