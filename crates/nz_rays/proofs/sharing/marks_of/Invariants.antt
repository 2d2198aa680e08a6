use Rattle.std.proofs.Common.{take}
use Rattle.nz_rays.specs.Shared.{AreMarksOf}
use Rattle.nz_rays.proofs.sharing.marks_of.Given as goal

abbrev pub invariant-loop-index : goal.invariant-loop-index
invariant-loop-index l = AreMarksOf l.sets (take l.index l.places) l.bound l.marks.items
