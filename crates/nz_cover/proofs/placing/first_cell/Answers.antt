use Rattle.std.proofs.Common.{◌<◌, length, arith}
use Rattle.nz_cover.proofs.PlacedLemmas.{vertices_more}
use Rattle.nz_cover.proofs.placing.first_cell.Goals as goal

pub loop-index-preserved : goal.loop-index-preserved
loop-index-preserved g c =
    let within : c.loop-index.index < length c.args.simplex.now.places = omega (arith, c.loop-index-test.true, c.len-index-end.ensures) in
    vertices_more c.loop-index.index c.args.simplex.now.places c.args.simplex.now.rays c.at-place.result c.in-Ok.form c.at.result.now c.loop-index.corners.items c.push.new.self.items within c.requires c.at-place.ensures c.at.ensures c.in-Ok.ensures c.loop-index.invariant c.in-Ok-push.ensures.items
