use Rattle.std.proofs.Common.{◌≡◌, take, map}
use Rattle.nz_spec.specs.Vectors.{values_at}
use Rattle.nz_units.proofs.coordinates.all_values.Given as goal

abbrev pub invariant-loop-place : goal.invariant-loop-place
invariant-loop-place g l = l.list ≡ take l.place (map (λ x. values_at l.forms x) l.vectors)
