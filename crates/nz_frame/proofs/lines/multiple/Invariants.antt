use Rattle.std.proofs.Common.{◌≡◌, take}
use Rattle.nz_spec.specs.Vectors.{scaled}
use Rattle.nz_frame.proofs.lines.multiple.Given as goal

abbrev pub invariant-loop-place : goal.invariant-loop-place
invariant-loop-place g l = l.entries ≡ take l.place (scaled (g.T.Scalar.integer l.factor) l.row)
