use Rattle.std.proofs.Common.{◌<◌, map, length, arith}
use Rattle.std.proofs.lemmas.List.{length-map}
use Rattle.nz_vec.proofs.SumsLemmas.{at_map}
use Rattle.nz_member.proofs.AmountLaws.{tells_next, tells_all}
use Rattle.nz_member.proofs.parts.most_times.Goals as goal

pub loop-place-preserved : goal.loop-place-preserved
loop-place-preserved g c =
    let int = g.T.Scalar.integer in
    let hs = c.args.heights.now in
    let vs = c.args.values.now in
    let k = c.loop-place.place in
    let mh = length-map hs int in
    let mv = length-map vs int in
    let kh : k < length hs = omega (arith, c.loop-place-test.true) in
    let kv : k < length vs = omega (arith, kh, c.requires.same) in
    tells_next int (map int hs) (map int vs) k (int c.index-heights-place.result) (int c.index-values-place.result) c.loop-place.most c.lesser-most.result
    (omega (arith, mh, mv, c.requires.same)) (omega (arith, mh, kh))
    (at_map int hs k c.index-heights-place.result kh c.index-heights-place.is)
    (at_map int vs k c.index-values-place.result kv c.index-values-place.is)
    c.requires.heights c.requires.values c.loop-place.invariant c.lesser-most.ensures

pub returns : goal.returns
returns g c =
    let int = g.T.Scalar.integer in
    let hs = c.args.heights.now in
    let vs = c.args.values.now in
    let mh = length-map hs int in
    let mv = length-map vs int in
    tells_all int (map int hs) (map int vs) c.loop-place.place c.loop-place.most (omega (arith, mh, c.loop-place-test.false)) (omega (arith, mv, c.requires.same, c.loop-place-test.false)) c.loop-place.invariant
