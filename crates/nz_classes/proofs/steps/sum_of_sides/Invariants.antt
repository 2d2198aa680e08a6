use Rattle.std.proofs.Common.{◌≡◌, length, take}
use Rattle.nz_spec.specs.Vectors.{combination}
use Rattle.nz_classes.proofs.steps.sum_of_sides.Given as goal

abbrev pub invariant-loop-place : goal.invariant-loop-place
invariant-loop-place g l = l.sum ≡ combination (length l.sides) (take l.place l.factors) l.sides
