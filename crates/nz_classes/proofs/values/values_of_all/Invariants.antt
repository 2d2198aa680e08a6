use Rattle.std.proofs.Common.{◌≡◌, map, take}
use Rattle.nz_spec.specs.Vectors.{values_at}
use Rattle.nz_classes.proofs.values.values_of_all.Given as goal

abbrev pub invariant-loop-place : goal.invariant-loop-place
invariant-loop-place g l = l.all ≡ take l.place (map (values_at l.forms) l.vectors)
