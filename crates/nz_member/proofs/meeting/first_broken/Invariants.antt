use Rattle.std.proofs.Common.{take}
use Rattle.nz_spec.specs.Constraints.{MeetsAll}
use Rattle.nz_member.proofs.meeting.first_broken.Given as goal

abbrev pub invariant-loop-place : goal.invariant-loop-place
invariant-loop-place g l = MeetsAll (take l.place l.constraints) l.x
