use Rattle.std.proofs.Common.{map, arith}
use Rattle.nz_vec.specs.Conditions.{condition_of}
use Rattle.nz_member.proofs.AmountSteps.{are_values_next, are_values_all}
use Rattle.nz_member.proofs.heights.values_of.Goals as goal

pub loop-place-preserved : goal.loop-place-preserved
loop-place-preserved g c =
    let int = g.T.Scalar.integer in
    are_values_next g.T.Scalar.fits c.args.constraints.now c.args.x.now c.loop-place.place (condition_of int c.at.result.now) (map int c.loop-place.values.items) (map int c.add_value.new.values.items)
    (omega (arith, c.loop-place-test.true, c.len-place-end.ensures)) c.at.ensures c.loop-place.invariant c.in-Ok.ensures.added c.in-Ok.ensures.fit

pub returns : goal.returns
returns g c = are_values_all g.T.Scalar.fits c.args.constraints.now c.args.x.now c.loop-place.place (map g.T.Scalar.integer c.loop-place.values.items) (omega (arith, c.loop-place-test.false, c.len-place-end.ensures)) c.loop-place.invariant
