use Rattle.std.proofs.Common.{◌<◌, ◌+◌, [], length, map, get_or, pos, sym, ap, ◌∙◌, subst, arith}
use Rattle.std.specs.Prelude.{Contains}
use Rattle.std.proofs.lemmas.List.{length-map, take_all}
use Rattle.nz_spec.specs.Vectors.{Vector, HasWidth, dot}
use Rattle.nz_spec.proofs.ListLaws.{contains_at, each_at, pushed}
use Rattle.nz_linear.specs.DualPairs.{divisor}
use Rattle.nz_classes.specs.Walks.{paired}
use Rattle.nz_classes.proofs.EntryLemmas.{divisor_entry}
use Rattle.nz_classes.proofs.SimplexLemmas.{length-paired}
use Rattle.nz_classes.proofs.values.divisors_of.Goals as goal

pub at-requires : goal.at-requires
at-requires g c = omega (arith, c.len-place-end.ensures, c.requires.one_each)

pub dot-requires : goal.dot-requires
dot-requires g c =
    let l : c.loop-place.place < length c.args.sides.now = omega (arith, c.len-place-end.ensures) in
    let m : c.loop-place.place < length c.args.forms.now = omega (arith, l, c.requires.one_each) in
    let w = length c.args.sides.now in
    ap length c.at.ensures ∙ each_at (HasWidth w) c.args.forms.now c.loop-place.place [] c.requires.forms_wide m ∙ sym (ap length c.at-in-loop-place.ensures ∙ each_at (HasWidth w) c.args.sides.now c.loop-place.place [] c.requires.sides_wide l)

pub returns-in-None : goal.returns-in-None
returns-in-None g c = λ _.
    let l : c.loop-place.place < length c.args.sides.now = omega (arith, c.len-place-end.ensures) in
    let m : c.loop-place.place < length c.args.forms.now = omega (arith, l, c.requires.one_each) in
    record {
      form = c.at.result.now;
      vector = c.at-in-loop-place.result.now;
      of_forms = subst (Contains c.args.forms.now) (sym c.at.ensures) (contains_at c.args.forms.now c.loop-place.place [] m);
      of_vectors = subst (Contains c.args.sides.now) (sym c.at-in-loop-place.ensures) (contains_at c.args.sides.now c.loop-place.place [] l);
      outside = c.in-None.ensures;
    }

pub loop-place-preserved : goal.loop-place-preserved
loop-place-preserved g c =
    let l : c.loop-place.place < length c.args.sides.now = omega (arith, c.len-place-end.ensures) in
    let ds = map divisor (paired c.args.forms.now c.args.sides.now) in
    let m : c.loop-place.place < length ds = omega (arith, l, length-map (paired c.args.forms.now c.args.sides.now) divisor, length-paired c.args.forms.now c.args.sides.now c.requires.one_each) in
    record {
      reached = c.push_reserved.ensures.len ∙ ap (λ n. n + 1) c.loop-place.invariant.reached;
      room = c.push_reserved.ensures.capacity ∙ c.loop-place.invariant.room;
      values = ap (map g.T.Scalar.integer) c.push_reserved.ensures.items ∙ pushed g.T.Scalar.integer c.loop-place.divisors.items c.in-Some.divisor ds c.loop-place.place (pos 0) m c.loop-place.invariant.values
          (c.in-Some.ensures.1 ∙ ap (λ (r : Vector). dot r c.at-in-loop-place.result.now) c.at.ensures ∙ ap (dot (get_or c.args.forms.now c.loop-place.place [])) c.at-in-loop-place.ensures ∙ sym (divisor_entry c.args.forms.now c.args.sides.now c.loop-place.place c.requires.one_each l));
    }

pub returns : goal.returns
returns g c = c.from_vec.ensures ∙ c.loop-place.invariant.values ∙ take_all c.loop-place.place (map divisor (paired c.args.forms.now c.args.sides.now)) (omega (arith, length-map (paired c.args.forms.now c.args.sides.now) divisor, length-paired c.args.forms.now c.args.sides.now c.requires.one_each, c.len-place-end.ensures, c.loop-place-test.false))
