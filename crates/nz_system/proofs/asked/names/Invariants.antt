use Rattle.std.proofs.Common.{◌≡◌, take}
use Rattle.nz_system.specs.Asked.{names}
use Rattle.nz_system.proofs.asked.names.Given as goal

abbrev pub invariant-loop-place : goal.invariant-loop-place
invariant-loop-place l = l.found ≡ names l.goal (take l.place l.goals)
