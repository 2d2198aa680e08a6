use Rattle.std.proofs.Common.{◌≡◌, take, map, pos}
use Rattle.nz_further.specs.Ideals.{at_level}
use Rattle.nz_ideal.specs.IdealFiles.{exponents}
use Rattle.nz_ideal.proofs.files.vertices.Given as goal

abbrev pub invariant-loop-place : goal.invariant-loop-place
invariant-loop-place l = l.vertices ≡ map (at_level (pos 1)) (exponents (take l.place l.items))
