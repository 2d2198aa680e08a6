use Rattle.std.proofs.Common.{take}
use Rattle.nz_rays.specs.Shared.{AreMarkedToo}
use Rattle.nz_rays.proofs.sharing.mark.Given as goal

abbrev pub invariant-loop-index : goal.invariant-loop-index
invariant-loop-index l = AreMarkedToo (take l.index l.set) l.initial.marks.items l.marks.items
