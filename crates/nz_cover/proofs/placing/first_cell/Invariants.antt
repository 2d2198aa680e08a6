use Rattle.std.proofs.Common.{◌≡◌, take}
use Rattle.nz_cover.specs.Placed.{vertices}
use Rattle.nz_cover.proofs.placing.first_cell.Given as goal

abbrev pub invariant-loop-index : goal.invariant-loop-index
invariant-loop-index g l = l.corners.items ≡ vertices (take l.index l.simplex.places) (take l.index l.simplex.rays)
