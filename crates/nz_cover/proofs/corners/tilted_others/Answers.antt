use Rattle.std.proofs.Common.{◌<◌, length, arith}
use Rattle.nz_cover.proofs.CornerLemmas.{tilted_corner, tilted_pass, large_corner}
use Rattle.nz_cover.proofs.corners.tilted_others.Goals as goal
use Rattle.nz_cover.proofs.corners.tilted_others.Goals.{then-j-across+in-Ok+in-Ok-push, else-j-across}

pub loop-j-preserved : goal.loop-j-preserved
loop-j-preserved g c =
    let within : c.loop-j.j < length c.cell.inside.corners.items = omega (arith, c.loop-j-test.true, c.len-j-end.ensures, c.cell.inside.corners.ok.0) in
    elim c.if-j-across.branch [
      | then-j-across+in-Ok+in-Ok-push w ↦ rw w.others-is (tilted_corner c.args.ray.now c.args.facet.now c.args.across c.loop-j.j c.args.cell.now c.cell.inside.corners.items w.index-corner.result.now w.corner.inside.place w.corner.inside.form w.in-Ok.form c.loop-j.others.items w.push.new.self.items c.cell.view_is within w.if-j-across.true w.corner.view_is w.index-corner.ensures w.in-Ok.ensures c.loop-j.invariant w.in-Ok-push.ensures.items)
      | else-j-across w ↦ rw w.others-is (tilted_pass c.args.ray.now c.args.facet.now c.args.across c.loop-j.j c.args.cell.now c.cell.inside.corners.items c.loop-j.others.items c.cell.view_is within w.if-j-across.false c.loop-j.invariant)
    ]

pub returns-in-Err : goal.returns-in-Err
returns-in-Err g c =
    let within : c.loop-j.j < length c.cell.inside.corners.items = omega (arith, c.loop-j-test.true, c.len-j-end.ensures, c.cell.inside.corners.ok.0) in
    λ e. large_corner g.T.Scalar.HALF c.args.ray.now c.args.facet.now c.args.cell.now c.cell.inside.corners.items c.loop-j.j c.index-corner.result.now c.corner.inside.place c.corner.inside.form c.cell.view_is within c.corner.view_is c.index-corner.ensures (c.in-Err.ensures e)
