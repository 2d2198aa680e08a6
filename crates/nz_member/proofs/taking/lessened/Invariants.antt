use Rattle.std.proofs.Common.{◌≡◌, map, take}
use Rattle.nz_spec.specs.Vectors.{minus, scaled}
use Rattle.nz_member.proofs.taking.lessened.Given as goal

abbrev pub invariant-loop-place : goal.invariant-loop-place
invariant-loop-place g l = map g.T.Scalar.integer l.rest.items ≡ take l.place (minus (map g.T.Scalar.integer l.values) (scaled (g.T.Scalar.integer l.count) (map g.T.Scalar.integer l.heights)))
