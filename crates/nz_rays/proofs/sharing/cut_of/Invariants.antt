use Rattle.std.proofs.Common.{take}
use Rattle.nz_rays.specs.Shared.{IsCutTo}
use Rattle.nz_rays.proofs.sharing.cut_of.Given as goal

abbrev pub invariant-loop-index : goal.invariant-loop-index
invariant-loop-index l = IsCutTo l.numbering.shared (take l.index l.set) l.cut
