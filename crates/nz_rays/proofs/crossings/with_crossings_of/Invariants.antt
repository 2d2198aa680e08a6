use Rattle.nz_rays.specs.Crossings.{AreCrossingsBefore}
use Rattle.nz_rays.proofs.crossings.with_crossings_of.Given as goal

abbrev pub invariant-loop-below : goal.invariant-loop-below
invariant-loop-below g l = AreCrossingsBefore l.values l.zeros l.above l.below l.list.items
