use Rattle.std.proofs.Common.{pos, ◌≤ℤ◌, get_or, arith, rules}
use Rattle.nz_blocks.proofs.ShapeReadings.{each_more, each_whole}
use Rattle.nz_blocks.proofs.shapes_asked.none_below_zero.Goals as goal

pub loop-index-preserved : goal.loop-index-preserved
loop-index-preserved c =
    let sign : pos 0 ≤ℤ get_or c.args.counts.now c.loop-index.index (pos 0) = search rules in
    each_more (λ z. pos 0 ≤ℤ z) c.args.counts.now c.loop-index.index (pos 0) (omega arith) c.loop-index.invariant sign

pub returns : goal.returns
returns c = each_whole (λ z. pos 0 ≤ℤ z) c.args.counts.now c.loop-index.index (omega arith) c.loop-index.invariant
