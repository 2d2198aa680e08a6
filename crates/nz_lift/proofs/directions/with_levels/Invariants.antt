use Rattle.std.proofs.Common.{◌≡◌, take}
use Rattle.nz_lift.specs.Directions.{headed}
use Rattle.nz_lift.proofs.directions.with_levels.Given as goal

abbrev pub invariant-loop-place : goal.invariant-loop-place
invariant-loop-place g l = l.list ≡ headed l.level (take l.place l.vectors)
