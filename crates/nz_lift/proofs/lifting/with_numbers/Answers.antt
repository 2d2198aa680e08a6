use Rattle.std.proofs.Common.{◌≤◌, refl, arith}
use Rattle.nz_lift.proofs.FollowLemmas.{part_next, part_whole, part_long, no_next}
use Rattle.nz_lift.proofs.lifting.with_numbers.Goals as goal

pub returns-then-is_below : goal.returns-then-is_below
returns-then-is_below g c =
    let Z = g.T.Scalar.integer in
    part_whole c.args.limit (Z c.args.interval.low) (Z c.args.interval.high) c.args.point.now c.args.list c.loop-place.list c.loop-place._place (Z c.loop-place.next) (omega (arith, c.loop-place-test.true)) c.if-is_below.ensures c.loop-place.invariant

pub returns-in-None : goal.returns-in-None
returns-in-None g c =
    let Z = g.T.Scalar.integer in
    (refl, no_next g.T.Scalar.HALF g.T.Scalar.fits g.met.T.Scalar.room (Z c.args.interval.low) (Z c.args.interval.high) c.args.point.now c.args.list c.loop-place.list c.loop-place._place (Z c.loop-place.next) (Z c.of_i64.result) c.if-is_below.ensures c.of_i64.ensures c.in-None.ensures c.loop-place.invariant)

pub loop-place-preserved : goal.loop-place-preserved
loop-place-preserved g c =
    let Z = g.T.Scalar.integer in
    part_next (Z c.args.interval.low) (Z c.args.interval.high) c.args.point.now c.args.list c.loop-place.list c.push_with.new.list c.loop-place._place (Z c.loop-place.next) (Z c.of_i64.result) (Z c.in-Some.next) c.if-is_below.ensures c.in-Ok.ensures c.of_i64.ensures c.in-Some.ensures.1 c.loop-place.invariant

pub returns-then-is_below-2 : goal.returns-then-is_below-2
returns-then-is_below-2 g c =
    let Z = g.T.Scalar.integer in
    let past : c.loop-place._place ≤ c.args.limit = c.loop-place.auto._place-end (omega (arith, c.len-place.ensures, c.requires)) in
    part_whole c.args.limit (Z c.args.interval.low) (Z c.args.interval.high) c.args.point.now c.args.list c.loop-place.list c.loop-place._place (Z c.loop-place.next) past c.if-is_below-2.ensures c.loop-place.invariant

pub returns-else-is_below-2 : goal.returns-else-is_below-2
returns-else-is_below-2 g c =
    let Z = g.T.Scalar.integer in
    part_long c.args.limit (Z c.args.interval.low) (Z c.args.interval.high) c.args.point.now c.args.list c.loop-place.list c.loop-place._place (Z c.loop-place.next) (omega (arith, c.loop-place-test.false)) c.if-is_below-2.ensures c.loop-place.invariant
