use Rattle.nz_lift.proofs.LiftLemmas.{IsLiftedPart}
use Rattle.nz_lift.proofs.lifting.lifted.Given as goal

abbrev pub invariant-loop-place : goal.invariant-loop-place
invariant-loop-place g l = IsLiftedPart l.limit l.forms l.points l.place l.list
