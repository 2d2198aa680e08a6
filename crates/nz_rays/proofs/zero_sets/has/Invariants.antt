use Rattle.std.proofs.Common.{◌-◌}
use Rattle.nz_rays.proofs.PlaceLemmas.{IsSought}
use Rattle.nz_rays.proofs.zero_sets.has.Given as goal

abbrev pub invariant-halves : goal.invariant-halves
invariant-halves l = IsSought l.set l.place l.low l.high

abbrev pub decreases-halves : goal.decreases-halves
decreases-halves l = l.high - l.low
