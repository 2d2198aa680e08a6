use Rattle.std.proofs.Common.{◌≡◌, map, take, vec_len}
use Rattle.std.specs.Prelude.{vec_capacity}
use Rattle.nz_spec.specs.Vectors.{combination}
use Rattle.nz_sweep.proofs.basis.Basis.vector.Given as goal

abbrev pub invariant-loop-place : goal.invariant-loop-place
invariant-loop-place g l = (vec_len l.entries ≡ l.place) × (vec_capacity l.entries ≡ l.self-inside.width) × (map g.T.Scalar.integer l.entries.items ≡ take l.place (combination l.self-inside.width l.coordinates l.self-inside.base.items))
