use Rattle.std.proofs.Common.{◌<◌, ◌+◌, length, map, pos, ap, ap₂, ◌∙◌, sym, arith}
use Rattle.std.specs.Prelude.{◌+ℤ◌}
use Rattle.nz_spec.specs.Vectors.{plus}
use Rattle.nz_spec.proofs.VectorLaws.{length-plus}
use Rattle.nz_spec.proofs.ListLaws.{pushed}
use Rattle.nz_dual.proofs.PairLemmas.{plus_at}
use Rattle.nz_dual.proofs.pairs.values_of_sum.Goals as goal

pub loop-place-preserved : goal.loop-place-preserved
loop-place-preserved g c =
    let u : c.loop-place.place < length c.args.own.now = omega (arith, c.requires.own, c.loop-place-test.true) in
    let v : c.loop-place.place < length c.args.other.now = omega (arith, c.requires.other, c.loop-place-test.true) in
    let m : c.loop-place.place < length (plus c.args.own.now c.args.other.now) = omega (arith, u, length-plus c.args.own.now c.args.other.now (c.requires.own ∙ sym c.requires.other)) in
    record {
      reached = c.push_reserved.ensures.len ∙ ap (λ n. n + 1) c.loop-place.invariant.reached;
      room = c.push_reserved.ensures.capacity ∙ c.loop-place.invariant.room;
      values = ap (map g.T.Scalar.integer) c.push_reserved.ensures.items ∙ pushed g.T.Scalar.integer c.loop-place.values.items c.in-Some.value (plus c.args.own.now c.args.other.now) c.loop-place.place (pos 0) m c.loop-place.invariant.values (c.in-Some.ensures.1 ∙ ap₂ (λ a b. a +ℤ b) c.at.ensures c.at-in-loop-place.ensures ∙ sym (plus_at c.args.own.now c.args.other.now c.loop-place.place u v));
    }
