use Rattle.std.proofs.Common.{◌≡◌, ◌++◌, take, map, pos}
use Rattle.nz_further.specs.Ideals.{at_level}
use Rattle.nz_ideal.proofs.files.push_vertices.Given as goal

abbrev pub invariant-loop-place : goal.invariant-loop-place
invariant-loop-place l = l.vertices ≡ l.fn.vertices ++ map (at_level (pos 1)) (take l.place l.rows)
