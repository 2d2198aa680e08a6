use Rattle.std.proofs.Common.{take}
use Rattle.nz_rays.specs.Cuts.{Appends, AreSumZeros}
use Rattle.nz_rays.proofs.cutting.with_sum_zeros.Given as goal

abbrev pub invariant-loop-index : goal.invariant-loop-index
invariant-loop-index l = Appends (AreSumZeros l.last) (take l.index l.crossings) l.initial.into l.into
