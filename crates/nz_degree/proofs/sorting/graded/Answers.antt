use Rattle.std.proofs.Common.{◌<◌, length, arith}
use Rattle.nz_spec.specs.Order.{degree}
use Rattle.nz_degree.proofs.RankLaws.{ranked_more, ranked_all}
use Rattle.nz_degree.proofs.sorting.graded.Goals as goal

pub loop-place-preserved : goal.loop-place-preserved
loop-place-preserved g c =
    let l : c.loop-place.place < length c.args.list.now = omega (arith, c.len-place-end.ensures) in
    ranked_more g.T.Scalar.integer (degree c.args.grading.now) c.args.list.now c.loop-place.place c.at-row.result.now c.in-Some.degree c.loop-place.ranked.items c.add.new.ranked.items l c.at-row.ensures c.in-Some.ensures.1 c.in_ok-add.ensures c.loop-place.invariant

pub returns : goal.returns
returns g c = ranked_all g.T.Scalar.integer (degree c.args.grading.now) c.args.list.now c.loop-place.place c.loop-place.ranked.items (omega (arith, c.len-place-end.ensures)) c.loop-place.invariant
