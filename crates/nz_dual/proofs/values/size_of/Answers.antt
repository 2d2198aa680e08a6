use Rattle.std.proofs.Common.{◌≡◌, ◌<◌, ◌+◌, length, arith, rules, refl}
use Rattle.std.specs.Prelude.{unsigned_abs}
use Rattle.nz_dual.proofs.ValueLemmas.{measure_within, size_next}
use Rattle.nz_dual.proofs.values.size_of.Goals as goal

pub returns-then-sum-ge-LIMIT : goal.returns-then-sum-ge-LIMIT
returns-then-sum-ge-LIMIT g c =
    let l : c.loop-place.place < length c.args.values.now = omega (arith, c.requires, c.loop-place-test.true) in
    let u : c.unsigned_abs-sum.result ≡ unsigned_abs (g.T.Scalar.integer c.at.result) = search rules in
    let n = size_next c.args.values.now c.loop-place.place _ _ c.unsigned_abs-sum.result c.loop-place.sum l u refl c.at.ensures c.loop-place.invariant.0 in
    let m = measure_within c.args.values.now (c.loop-place.place + 1) c.args.count (omega (arith, c.loop-place-test.true)) in
    omega (arith, n, m, c.if-sum-ge-LIMIT.true)

pub loop-place-preserved : goal.loop-place-preserved
loop-place-preserved g c =
    let l : c.loop-place.place < length c.args.values.now = omega (arith, c.requires, c.loop-place-test.true) in
    let u : c.unsigned_abs-sum.result ≡ unsigned_abs (g.T.Scalar.integer c.at.result) = search rules in
    (size_next c.args.values.now c.loop-place.place _ _ c.unsigned_abs-sum.result c.loop-place.sum l u refl c.at.ensures c.loop-place.invariant.0, c.if-sum-ge-LIMIT.false)
