use Rattle.std.proofs.Common.{◌<◌, length, ◌∙◌, arith}
use Rattle.nz_rays.proofs.PlaceLemmas.{common_push, common_skip, common_all}
use Rattle.nz_rays.proofs.zero_sets.common.Goals as goal
use Rattle.nz_rays.proofs.zero_sets.common.Goals.{then-has+in-Ok, else-has}

pub loop-index-preserved : goal.loop-index-preserved
loop-index-preserved c =
    let within : c.loop-index.index < length c.args.first.now = omega (arith, c.loop-index-test.true, c.len-index-end.ensures) in
    elim c.if-has.branch [
      | then-has+in-Ok w ↦ common_push c.args.first.now c.args.second.now c.loop-index.both _ c.loop-index.index c.at-place.result c.requires.first within c.at-place.ensures c.loop-index.invariant w.if-has.ensures (w.both-is ∙ w.in-Ok.ensures.ok)
      | else-has w ↦ rw w.both-is (common_skip c.args.first.now c.args.second.now c.loop-index.both c.loop-index.index c.at-place.result within c.at-place.ensures c.loop-index.invariant w.if-has.ensures)
    ]

pub returns : goal.returns
returns c = common_all c.args.first.now c.args.second.now c.loop-index.both c.loop-index.index (omega (arith, c.loop-index-test.false, c.len-index-end.ensures)) c.loop-index.invariant
