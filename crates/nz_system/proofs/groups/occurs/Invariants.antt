use Rattle.std.proofs.Common.{◌≡◌, take}
use Rattle.nz_system.specs.Groups.{occurs}
use Rattle.nz_system.proofs.groups.occurs.Given as goal

abbrev pub invariant-loop-place : goal.invariant-loop-place
invariant-loop-place l = l.found ≡ occurs l.group (take l.place l.items)
