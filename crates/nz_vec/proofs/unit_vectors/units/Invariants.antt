use Rattle.std.proofs.Common.{◌≡◌, take, vec_len}
use Rattle.std.specs.Prelude.{vec_capacity}
use Rattle.nz_spec.specs.Vectors.{unit_vectors}
use Rattle.nz_vec.proofs.unit_vectors.units.Given as goal

abbrev pub invariant-loop-place : goal.invariant-loop-place
invariant-loop-place g l = (vec_len l.units ≡ l.place) × (vec_capacity l.units ≡ l.width) × (l.units.items ≡ take l.place (unit_vectors l.width))
