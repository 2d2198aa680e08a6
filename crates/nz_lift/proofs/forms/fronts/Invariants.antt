use Rattle.std.proofs.Common.{◌≡◌, take}
use Rattle.nz_lift.specs.Directions.{fronts}
use Rattle.nz_lift.proofs.forms.fronts.Given as goal

abbrev pub invariant-loop-place : goal.invariant-loop-place
invariant-loop-place g l = l.list ≡ fronts l.size (take l.place l.vectors)
