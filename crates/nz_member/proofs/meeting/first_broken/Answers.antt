use Rattle.std.proofs.Common.{Bool, arith, subst}
use Rattle.std.specs.Prelude.{MatchBool}
use Rattle.nz_spec.specs.Constraints.{Meets}
use Rattle.nz_vec.specs.Conditions.{condition_of}
use Rattle.nz_member.proofs.Meetings.{found_at, value_there}
use Rattle.nz_member.proofs.meeting.first_broken.Goals as goal

pub returns-in-Some-false-clause-found : goal.returns-in-Some-false-clause-found
returns-in-Some-false-clause-found g c =
    let d = condition_of g.T.Scalar.integer c.at.result.now in
    let x = c.args.x.now in
    let n = subst (λ (b : Bool). MatchBool b (Meets d x) (¬ Meets d x)) c.in-Some-false.field-0-test c.in-Some-false.ensures.holds in
    found_at c.args.constraints.now x c.loop-place.place d (omega (arith, c.loop-place-test.true, c.len-place-end.ensures)) c.at.ensures c.loop-place.invariant n

pub returns-in-Some-false-clause-value : goal.returns-in-Some-false-clause-value
returns-in-Some-false-clause-value g c = value_there g.T.Scalar.fits c.args.constraints.now c.args.x.now c.loop-place.place (condition_of g.T.Scalar.integer c.at.result.now) (omega (arith, c.loop-place-test.true, c.len-place-end.ensures)) c.at.ensures c.in-Some-false.ensures.value
