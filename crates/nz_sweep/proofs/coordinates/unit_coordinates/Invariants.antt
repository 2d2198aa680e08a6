use Rattle.std.proofs.Common.{◌≡◌, map}
use Rattle.nz_sweep.specs.Duals.{unit_coordinate}
use Rattle.nz_sweep.proofs.coordinates.unit_coordinates.Given as goal

abbrev pub invariant-loop-form : goal.invariant-loop-form
invariant-loop-form g l = l.list.items ≡ map unit_coordinate l.yielded
