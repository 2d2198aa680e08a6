use Rattle.std.proofs.Common.{take}
use Rattle.nz_pointed.specs.Elimination.{IsElimination}
use Rattle.nz_pointed.proofs.starting.eliminated.Given as goal

abbrev pub invariant-loop-place : goal.invariant-loop-place
invariant-loop-place g l = IsElimination l.width (take l.place l.rows) l.elimination.places l.elimination.chosen.items l.elimination.left.items
