use Rattle.std.proofs.Common.{◌<◌, length, arith}
use Rattle.nz_rays.proofs.SharedLemmas.{marks_more}
use Rattle.nz_rays.proofs.sharing.marks_of.Goals as goal

pub loop-index-preserved : goal.loop-index-preserved
loop-index-preserved c =
    let within : c.loop-index.index < length c.args.places.now = omega (arith, c.loop-index-test.true, c.len-index-end.ensures) in
    marks_more c.args.sets.now c.args.places.now c.args.bound c.loop-index.index c.at.result c.at-in-loop-index.result.now c.loop-index.marks.items c.mark.new.marks.items within c.at.ensures c.at-in-loop-index.ensures c.loop-index.invariant c.mark.ensures
