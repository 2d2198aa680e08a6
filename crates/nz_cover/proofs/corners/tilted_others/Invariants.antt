use Rattle.std.proofs.Common.{take}
use Rattle.std.specs.List.{AllZip}
use Rattle.nz_cover.specs.Corners.{without, IsTiltedAt}
use Rattle.nz_cover.proofs.corners.tilted_others.Given as goal

abbrev pub invariant-loop-j : goal.invariant-loop-j
invariant-loop-j g l = AllZip (IsTiltedAt l.ray l.facet) (without l.across (take l.j l.cell)) l.others.items
