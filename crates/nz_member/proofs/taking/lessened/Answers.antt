use Rattle.std.proofs.Common.{◌<◌, length, map, ◌-ℤ◌, ◌*ℤ◌, arith}
use Rattle.std.proofs.lemmas.List.{length-map}
use Rattle.nz_vec.proofs.SumsLemmas.{at_map}
use Rattle.nz_member.proofs.AmountSteps.{lessen_same, lessen_at, left_next, left_all, left_pushed}
use Rattle.nz_member.proofs.taking.lessened.Goals as goal

pub offset_bounds-heights-place : goal.offset_bounds-heights-place
offset_bounds-heights-place g c =
    let int = g.T.Scalar.integer in
    let e = lessen_same g.T.Scalar.fits (int c.args.count) (map int c.args.heights.now) (map int c.args.values.now) c.requires in
    omega (arith, c.loop-place-test.true, e, length-map c.args.heights.now int, length-map c.args.values.now int)

pub bounds-heights-place : goal.bounds-heights-place
bounds-heights-place g c =
    let int = g.T.Scalar.integer in
    let e = lessen_same g.T.Scalar.fits (int c.args.count) (map int c.args.heights.now) (map int c.args.values.now) c.requires in
    omega (arith, c.loop-place-test.true, e, length-map c.args.heights.now int, length-map c.args.values.now int)

pub left_of-requires-clause-taken : goal.left_of-requires-clause-taken
left_of-requires-clause-taken g c =
    let int = g.T.Scalar.integer in
    let hs = c.args.heights.now in
    let vs = c.args.values.now in
    let k = c.loop-place.place in
    let e = lessen_same g.T.Scalar.fits (int c.args.count) (map int hs) (map int vs) c.requires in
    let mh = length-map hs int in
    let mv = length-map vs int in
    let kv : k < length vs = omega (arith, c.loop-place-test.true) in
    let kh : k < length hs = omega (arith, kv, e, mh, mv) in
    (lessen_at g.T.Scalar.fits (int c.args.count) (map int hs) (map int vs) k (int c.index-heights-place.result) (int c.index-values-place.result) (omega (arith, kv, mv))
    (at_map int hs k c.index-heights-place.result kh c.index-heights-place.is) (at_map int vs k c.index-values-place.result kv c.index-values-place.is) c.requires).0

pub left_of-requires-clause-left : goal.left_of-requires-clause-left
left_of-requires-clause-left g c =
    let int = g.T.Scalar.integer in
    let hs = c.args.heights.now in
    let vs = c.args.values.now in
    let k = c.loop-place.place in
    let e = lessen_same g.T.Scalar.fits (int c.args.count) (map int hs) (map int vs) c.requires in
    let mh = length-map hs int in
    let mv = length-map vs int in
    let kv : k < length vs = omega (arith, c.loop-place-test.true) in
    let kh : k < length hs = omega (arith, kv, e, mh, mv) in
    (lessen_at g.T.Scalar.fits (int c.args.count) (map int hs) (map int vs) k (int c.index-heights-place.result) (int c.index-values-place.result) (omega (arith, kv, mv))
    (at_map int hs k c.index-heights-place.result kh c.index-heights-place.is) (at_map int vs k c.index-values-place.result kv c.index-values-place.is) c.requires).1

pub loop-place-preserved : goal.loop-place-preserved
loop-place-preserved g c =
    let int = g.T.Scalar.integer in
    let hs = c.args.heights.now in
    let vs = c.args.values.now in
    let k = c.loop-place.place in
    let e = lessen_same g.T.Scalar.fits (int c.args.count) (map int hs) (map int vs) c.requires in
    let mh = length-map hs int in
    let mv = length-map vs int in
    let kv : k < length vs = omega (arith, c.loop-place-test.true) in
    let kh : k < length hs = omega (arith, kv, e, mh, mv) in
    left_next (int c.args.count) (map int hs) (map int vs) k (int c.index-heights-place.result) (int c.index-values-place.result) (map int c.loop-place.rest.items) (map int c.push.new.self.items) e (omega (arith, kv, mv))
    (at_map int hs k c.index-heights-place.result kh c.index-heights-place.is) (at_map int vs k c.index-values-place.result kv c.index-values-place.is) c.loop-place.invariant
    (left_pushed int c.loop-place.rest.items c.push.new.self.items c.left_of.result (int c.index-values-place.result -ℤ int c.args.count *ℤ int c.index-heights-place.result) c.in-Ok.ensures.items c.left_of.ensures)

pub returns : goal.returns
returns g c =
    let int = g.T.Scalar.integer in
    let hs = c.args.heights.now in
    let vs = c.args.values.now in
    let e = lessen_same g.T.Scalar.fits (int c.args.count) (map int hs) (map int vs) c.requires in
    left_all (int c.args.count) (map int hs) (map int vs) c.loop-place.place (map int c.loop-place.rest.items) e (omega (arith, c.loop-place-test.false, length-map vs int)) c.loop-place.invariant
