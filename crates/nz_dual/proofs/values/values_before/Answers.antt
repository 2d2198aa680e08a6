use Rattle.std.proofs.Common.{◌<◌, ◌+◌, [], length, map, pos, refl, sym, ap, ◌∙◌, subst, arith}
use Rattle.std.specs.Prelude.{Contains}
use Rattle.std.proofs.lemmas.List.{length-map}
use Rattle.nz_spec.specs.Vectors.{Vector, dot, values_at}
use Rattle.nz_spec.proofs.ListLaws.{contains_at, pushed}
use Rattle.nz_range.proofs.Causes.{value_cause}
use Rattle.nz_vec.proofs.ValueLemmas.{value_at}
use Rattle.nz_dual.proofs.values.values_before.Goals as goal

pub returns-in-None : goal.returns-in-None
returns-in-None g c = λ _.
    let l : c.loop-place.place < length c.args.rows.now = omega (arith, c.len-place-end.ensures, c.loop-place-test.true) in
    record {
      form = c.at.result.now;
      vector = c.args.x.now;
      is_form = subst (Contains c.args.rows.now) (sym c.at.ensures) (contains_at c.args.rows.now c.loop-place.place [] l);
      named = refl;
      large = value_cause g.T.Scalar.HALF g.T.Scalar.fits g.met.T.Scalar.room c.at.result.now c.args.x.now c.in-None.ensures;
    }

pub loop-place-preserved : goal.loop-place-preserved
loop-place-preserved g c =
    let l : c.loop-place.place < length c.args.rows.now = omega (arith, c.len-place-end.ensures, c.loop-place-test.true) in
    let m : c.loop-place.place < length (values_at c.args.rows.now c.args.x.now) = omega (arith, l, length-map c.args.rows.now (λ f. dot f c.args.x.now)) in
    record {
      reached = c.push_reserved.ensures.len ∙ ap (λ n. n + 1) c.loop-place.invariant.reached;
      room = c.push_reserved.ensures.capacity ∙ c.loop-place.invariant.room;
      values = ap (map g.T.Scalar.integer) c.push_reserved.ensures.items ∙ pushed g.T.Scalar.integer c.loop-place.values.items c.in-Some.value (values_at c.args.rows.now c.args.x.now) c.loop-place.place (pos 0) m c.loop-place.invariant.values (c.in-Some.ensures.1 ∙ ap (λ (r : Vector). dot r c.args.x.now) c.at.ensures ∙ sym (value_at c.args.rows.now c.args.x.now c.loop-place.place l));
    }
