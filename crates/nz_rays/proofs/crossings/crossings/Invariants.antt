use Rattle.nz_rays.specs.Crossings.{AreCrossingsBefore}
use Rattle.nz_rays.proofs.crossings.crossings.Given as goal

abbrev pub invariant-loop-above : goal.invariant-loop-above
invariant-loop-above g l = AreCrossingsBefore l.values l.zeros l.above 0 l.list.items
