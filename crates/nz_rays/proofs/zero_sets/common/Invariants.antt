use Rattle.std.proofs.Common.{◌<◌, take}
use Rattle.nz_spec.specs.Order.{IsListOf}
use Rattle.nz_rays.proofs.PlaceLemmas.{IsInBoth}
use Rattle.nz_rays.proofs.zero_sets.common.Given as goal

abbrev pub invariant-loop-index : goal.invariant-loop-index
invariant-loop-index l = IsListOf ◌<◌ (IsInBoth (take l.index l.first) l.second) l.both
