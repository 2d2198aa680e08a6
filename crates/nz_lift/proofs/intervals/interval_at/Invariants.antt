use Rattle.std.proofs.Common.{take}
use Rattle.nz_lift.specs.Ends.{AreEndsAt}
use Rattle.nz_lift.proofs.intervals.interval_at.Given as goal

abbrev pub invariant-loop-place : goal.invariant-loop-place
invariant-loop-place g l = AreEndsAt (take l.place l.forms) l.x l.ends
