use Rattle.std.proofs.Common.{take}
use Rattle.nz_primal.specs.Second.{HaveCoordinates}
use Rattle.nz_primal.proofs.second.all_coordinates.Given as goal

abbrev pub invariant-loop-place : goal.invariant-loop-place
invariant-loop-place g l = HaveCoordinates l.base.width l.base.vectors l.list (take l.place l.vectors)
