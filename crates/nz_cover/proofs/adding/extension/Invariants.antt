use Rattle.std.proofs.Common.{take}
use Rattle.nz_cover.specs.Corners.{IsExtended}
use Rattle.nz_cover.proofs.adding.extension.Given as goal

abbrev pub invariant-loop-index : goal.invariant-loop-index
invariant-loop-index g l = IsExtended l.rays l.place (take l.index l.facets) l.cells l.added.items
