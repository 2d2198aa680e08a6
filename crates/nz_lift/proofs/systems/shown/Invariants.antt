use Rattle.std.proofs.Common.{◌≡◌, take}
use Rattle.nz_lift.proofs.systems.shown.Given as goal

abbrev pub invariant-loop-place : goal.invariant-loop-place
invariant-loop-place g l = l.entries ≡ take l.place l.row
