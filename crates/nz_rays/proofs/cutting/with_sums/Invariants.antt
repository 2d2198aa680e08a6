use Rattle.std.proofs.Common.{take}
use Rattle.nz_rays.specs.Cuts.{Appends, IsSum}
use Rattle.nz_rays.proofs.cutting.with_sums.Given as goal

abbrev pub invariant-loop-index : goal.invariant-loop-index
invariant-loop-index g l = Appends (IsSum l.values l.rays) (take l.index l.crossings) l.initial.into l.into
