use Rattle.std.proofs.Common.{ℕ, subst}
use Rattle.std.specs.Prelude.{Option}
use Rattle.nz_member.specs.Replies.{FindsBroken}
use Rattle.nz_member.proofs.Meetings.{found_not_all}
use Rattle.nz_member.proofs.meeting.member.Goals as goal

pub returns-in-Ok-Some : goal.returns-in-Ok-Some
returns-in-Ok-Some g c = found_not_all c.args.constraints.now c.args.x.now c.in-Ok-Some.field-0-0 (subst (λ (o : Option ℕ). FindsBroken c.args.constraints.now c.args.x.now o) c.in-Ok-Some.field-0-is c.in-Ok-Some.ensures.found)
