use Rattle.std.proofs.Common.{◌<◌, length, refl, arith}
use Rattle.nz_rays.proofs.SharedLemmas.{marked_more, place_below}
use Rattle.nz_rays.proofs.sharing.mark.Goals as goal

pub loop-index-preserved : goal.loop-index-preserved
loop-index-preserved c =
    let within : c.loop-index.index < length c.args.set.now = omega (arith, c.loop-index-test.true, c.len-index-end.ensures) in
    let l = place_below c.args.set.now c.loop-index.index c.at-place.result (length c.args.marks.now.items) within c.at-place.ensures c.requires in
    marked_more c.args.set.now c.args.marks.now.items c.loop-index.marks.items _ c.loop-index.index c.at-place.result within c.at-place.ensures (omega (arith, l, c.loop-index.invariant.long)) c.loop-index.invariant refl
