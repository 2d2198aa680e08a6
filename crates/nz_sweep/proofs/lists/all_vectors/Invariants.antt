use Rattle.std.proofs.Common.{◌≡◌, take, map}
use Rattle.nz_spec.specs.Vectors.{combination}
use Rattle.nz_sweep.proofs.lists.all_vectors.Given as goal

abbrev pub invariant-loop-place : goal.invariant-loop-place
invariant-loop-place g l = l.list ≡ take l.place (map (λ c. combination l.base.width c l.base.vectors) l.coordinates)
