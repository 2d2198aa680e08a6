use Rattle.std.proofs.Common.{arith}
use Rattle.nz_lift.proofs.LiftLemmas.{lifted_next, lifted_refused, lifted_whole}
use Rattle.nz_lift.proofs.lifting.lifted.Goals as goal

pub returns-in-Err-clause-list : goal.returns-in-Err-clause-list
returns-in-Err-clause-list g c = lifted_refused c.args.limit c.args.forms.now c.args.points.now c.loop-place.place c.loop-place.list c.loop-place.invariant c.at.result.now (omega (arith, c.loop-place-test.true, c.len-place-end.ensures)) c.at.ensures g.T.Scalar.HALF c.in-Err.refusal c.in-Err.ensures

pub loop-place-preserved : goal.loop-place-preserved
loop-place-preserved g c = lifted_next c.args.limit c.args.forms.now c.args.points.now c.loop-place.place c.loop-place.list c.loop-place.invariant c.at.result.now (omega (arith, c.loop-place-test.true, c.len-place-end.ensures)) c.at.ensures c.in-Ok.list c.in-Ok.ensures

pub returns-clause-list : goal.returns-clause-list
returns-clause-list g c = lifted_whole c.args.limit c.args.forms.now c.args.points.now c.loop-place.place c.loop-place.list (omega (arith, c.loop-place-test.false, c.len-place-end.ensures)) c.loop-place.invariant
