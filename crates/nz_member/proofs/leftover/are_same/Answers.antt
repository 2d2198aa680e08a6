use Rattle.std.proofs.Common.{arith}
use Rattle.nz_member.proofs.AmountSteps.{differ_at, same_next}
use Rattle.nz_member.proofs.leftover.are_same.Goals as goal

pub returns-then-not-is_same : goal.returns-then-not-is_same
returns-then-not-is_same g c =
    differ_at g.T.Scalar.integer c.args.a.now c.args.b.now c.loop-place.place c.index-a-place.result c.index-b-place.result
    (omega (arith, c.loop-place-test.true)) (omega (arith, c.loop-place-test.true, c.if-a-b.false)) c.index-a-place.is c.index-b-place.is c.if-not-is_same.ensures

pub loop-place-preserved : goal.loop-place-preserved
loop-place-preserved g c =
    same_next g.T.Scalar.integer c.args.a.now c.args.b.now c.loop-place.place c.index-a-place.result c.index-b-place.result
    (omega (arith, c.loop-place-test.true)) (omega (arith, c.loop-place-test.true, c.if-a-b.false)) c.index-a-place.is c.index-b-place.is c.if-not-is_same.ensures c.loop-place.invariant
