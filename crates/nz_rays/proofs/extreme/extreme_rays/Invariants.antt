use Rattle.std.proofs.Common.{length}
use Rattle.nz_rays.proofs.RayLemmas.{IsHeld}
use Rattle.nz_rays.proofs.extreme.extreme_rays.Given as goal

abbrev pub invariant-loop-place : goal.invariant-loop-place
invariant-loop-place g l = IsHeld (length l.simplex.places) l.rows l.simplex.places l.place l.double
