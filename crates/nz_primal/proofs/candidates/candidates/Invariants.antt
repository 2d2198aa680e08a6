use Rattle.std.proofs.Common.{take}
use Rattle.nz_primal.specs.Parts.{AreCandidates}
use Rattle.nz_primal.proofs.candidates.candidates.Given as goal

abbrev pub invariant-loop-place : goal.invariant-loop-place
invariant-loop-place g l = AreCandidates l.rays (take l.place l.cover.simplices) l.list
