use Rattle.std.proofs.Common.{◌<◌, length, arith}
use Rattle.nz_vec.specs.Conditions.{condition_of}
use Rattle.nz_frame.proofs.SystemConstraints.{appended_more}
use Rattle.nz_frame.proofs.constraining.append_congruences.Goals as goal

pub loop-place-preserved : goal.loop-place-preserved
loop-place-preserved g c =
    let l : c.loop-place.place < length c.args.others.now = omega (arith, c.loop-place-test.true, c.len-place-end.ensures) in
    appended_more c.args.list c.loop-place.list c.in-Ok.list c.args.others.now c.loop-place.place (condition_of g.T.Scalar.integer c.at.result.now) l c.at.ensures c.loop-place.invariant c.in-Ok.ensures
