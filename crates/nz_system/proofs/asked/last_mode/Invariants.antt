use Rattle.std.proofs.Common.{◌≡◌, take}
use Rattle.nz_system.specs.Asked.{last_mode}
use Rattle.nz_system.proofs.asked.last_mode.Given as goal

abbrev pub invariant-loop-place : goal.invariant-loop-place
invariant-loop-place l = l.mode ≡ last_mode (take l.place l.goals)
