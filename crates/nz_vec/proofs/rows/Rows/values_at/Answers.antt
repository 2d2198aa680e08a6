use Rattle.std.proofs.Common.{◌<◌, ◌+◌, [], length, map, pos, sym, ap, ◌∙◌, subst, arith}
use Rattle.std.specs.Prelude.{Contains}
use Rattle.std.proofs.lemmas.List.{length-map, take_all}
use Rattle.nz_spec.specs.Vectors.{Vector, HasWidth, dot, values_at}
use Rattle.nz_spec.proofs.ListLaws.{contains_here, contains_at, each_at, pushed}
use Rattle.nz_vec.proofs.ValueLemmas.{value_at}
use Rattle.nz_vec.proofs.rows.Rows.values_at.Goals as goal

pub dot-requires : goal.dot-requires
dot-requires g c =
    let l : c.loop-place.place < length c.args.self.now = omega (arith, c.len-place-end.ensures) in
    ap length c.at.ensures ∙ each_at (HasWidth (length c.args.x.now)) c.args.self.now c.loop-place.place [] c.requires l

pub returns-in-None : goal.returns-in-None
returns-in-None g c = λ _.
    let l : c.loop-place.place < length c.args.self.now = omega (arith, c.len-place-end.ensures) in
    record {
      form = c.at.result.now;
      vector = c.args.x.now;
      of_forms = subst (Contains c.args.self.now) (sym c.at.ensures) (contains_at c.args.self.now c.loop-place.place [] l);
      of_vectors = contains_here c.args.x.now [];
      outside = c.in-None.ensures;
    }

pub loop-place-preserved : goal.loop-place-preserved
loop-place-preserved g c =
    let l : c.loop-place.place < length c.args.self.now = omega (arith, c.len-place-end.ensures) in
    let m : c.loop-place.place < length (values_at c.args.self.now c.args.x.now) = omega (arith, l, length-map c.args.self.now (λ f. dot f c.args.x.now)) in
    record {
      reached = c.push_reserved.ensures.len ∙ ap (λ n. n + 1) c.loop-place.invariant.reached;
      room = c.push_reserved.ensures.capacity ∙ c.loop-place.invariant.room;
      values = ap (map g.T.Scalar.integer) c.push_reserved.ensures.items ∙ pushed g.T.Scalar.integer c.loop-place.values.items c.in-Some.value (values_at c.args.self.now c.args.x.now) c.loop-place.place (pos 0) m c.loop-place.invariant.values (c.in-Some.ensures.1 ∙ ap (λ (r : Vector). dot r c.args.x.now) c.at.ensures ∙ sym (value_at c.args.self.now c.args.x.now c.loop-place.place l));
    }

pub returns : goal.returns
returns g c = c.from_vec.ensures ∙ c.loop-place.invariant.values ∙ take_all c.loop-place.place (values_at c.args.self.now c.args.x.now) (omega (arith, length-map c.args.self.now (λ f. dot f c.args.x.now), c.len-place-end.ensures, c.loop-place-test.false))
