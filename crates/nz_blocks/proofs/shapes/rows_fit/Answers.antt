use Rattle.std.proofs.Common.{◌≡◌, [], length, get_or, arith, rules}
use Rattle.nz_spec.specs.Vectors.{HasWidth}
use Rattle.nz_blocks.proofs.ShapeReadings.{each_more, each_whole}
use Rattle.nz_blocks.proofs.shapes.rows_fit.Goals as goal

pub loop-index-preserved : goal.loop-index-preserved
loop-index-preserved c =
    let width : length (get_or c.args.rows.now c.loop-index.index []) ≡ c.args.width = search rules in
    each_more (HasWidth c.args.width) c.args.rows.now c.loop-index.index [] (omega arith) c.loop-index.invariant width

pub returns : goal.returns
returns c = each_whole (HasWidth c.args.width) c.args.rows.now c.loop-index.index (omega arith) c.loop-index.invariant
