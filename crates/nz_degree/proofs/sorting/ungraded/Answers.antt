use Rattle.std.proofs.Common.{◌<◌, length, pos, arith}
use Rattle.nz_degree.proofs.RankLaws.{ranked_more, ranked_all}
use Rattle.nz_degree.proofs.sorting.ungraded.Goals as goal

pub loop-place-preserved : goal.loop-place-preserved
loop-place-preserved g c =
    let l : c.loop-place.place < length c.args.list.now = omega (arith, c.len-place-end.ensures) in
    ranked_more g.T.Scalar.integer (λ _. pos 0) c.args.list.now c.loop-place.place c.at.result.now c.of_i64.result c.loop-place.ranked.items c.add.new.ranked.items l c.at.ensures c.of_i64.ensures c.in_ok-add.ensures c.loop-place.invariant

pub returns : goal.returns
returns g c = ranked_all g.T.Scalar.integer (λ _. pos 0) c.args.list.now c.loop-place.place c.loop-place.ranked.items (omega (arith, c.len-place-end.ensures)) c.loop-place.invariant
