use Rattle.std.proofs.Common.{take}
use Rattle.std.specs.List.{AllZip}
use Rattle.nz_rays.specs.Cuts.{AreKeptZeros}
use Rattle.nz_rays.proofs.cutting.kept_zeros.Given as goal

abbrev pub invariant-loop-index : goal.invariant-loop-index
invariant-loop-index g l = AllZip (AreKeptZeros l.values l.zeros l.last) (take l.index l.kept) l.lists
