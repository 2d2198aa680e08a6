use Rattle.std.proofs.Common.{◌≡◌, ◌<◌, ◌+◌, [], length, get_or, ℤ, pos, sym, ap, ◌∙◌, subst, arith}
use Rattle.std.specs.Prelude.{◌<ℤ◌}
use Rattle.std.proofs.lemmas.Int.{ints}
use Rattle.std.proofs.lemmas.List.{length-map}
use Rattle.nz_classes.specs.Steps.{AreQuotients}
use Rattle.nz_spec.specs.Vectors.{Vector, entry}
use Rattle.nz_spec.proofs.ListLaws.{each_at}
use Rattle.nz_scalar.specs.Division.{IsFloorQuotient}
use Rattle.nz_classes.proofs.EntryLemmas.{each_push, quotient_is}
use Rattle.nz_classes.proofs.values.quotients_of.Goals as goal

pub loop-place-init : goal.loop-place-init
loop-place-init g c = record {
  reached = c.in-Ok.ensures.len;
  room = omega (arith, c.in-Ok.ensures.exact, c.len.ensures);
  each = λ i l. absurd (omega (arith, l));
}

pub floor_div-requires : goal.floor_div-requires
floor_div-requires g c =
    let l : c.loop-place.place < length c.args.divisors.now = omega (arith, c.len-place-end.ensures, c.requires.one_each) in
    let p = subst (λ (t : ℤ). pos 0 <ℤ t) (sym c.at-in-loop-place.ensures) (each_at (λ d. pos 0 <ℤ d) c.args.divisors.now c.loop-place.place (pos 0) c.requires.positive l) in
    λ e. omega (arith, ints, p, e)

pub unwrap-requires : goal.unwrap-requires
unwrap-requires g c =
    let l : c.loop-place.place < length c.args.divisors.now = omega (arith, c.len-place-end.ensures, c.requires.one_each) in
    c.floor_div.ensures.some (subst (λ (t : ℤ). pos 0 <ℤ t) (sym c.at-in-loop-place.ensures) (each_at (λ d. pos 0 <ℤ d) c.args.divisors.now c.loop-place.place (pos 0) c.requires.positive l))

pub loop-place-preserved : goal.loop-place-preserved
loop-place-preserved g c = record {
  reached = c.push_reserved.ensures.len ∙ ap (λ n. n + 1) c.loop-place.invariant.reached;
  room = c.push_reserved.ensures.capacity ∙ c.loop-place.invariant.room;
  each = each_push (λ i q. IsFloorQuotient (entry (get_or c.args.forms.now i []) c.args.column) (entry c.args.divisors.now i) q) g.T.Scalar.integer c.loop-place.floors.items c.push_reserved.new.self.items c.unwrap.result c.loop-place.place (omega (arith, c.loop-place.floors.ok.0, c.loop-place.invariant.reached)) c.push_reserved.ensures.items c.loop-place.invariant.each
      (quotient_is g.T.Scalar.integer g.T.Scalar.fits c.floor_div.result c.unwrap.result _ _ (entry (get_or c.args.forms.now c.loop-place.place []) c.args.column) (entry c.args.divisors.now c.loop-place.place) c.unwrap.ensures c.floor_div.ensures.value (c.at-value.ensures ∙ ap (λ (v : Vector). entry v c.args.column) c.at.ensures) c.at-in-loop-place.ensures);
}

pub returns : goal.returns
returns g c =
    let n : c.loop-place.place ≡ length c.args.forms.now = omega (arith, c.len-place-end.ensures, c.loop-place-test.false, c.loop-place.auto.place-end) in
    subst (AreQuotients c.args.forms.now c.args.divisors.now c.args.column) (sym c.from_vec.ensures) (record {
      one_each = omega (arith, n, length-map c.loop-place.floors.items g.T.Scalar.integer, c.loop-place.floors.ok.0, c.loop-place.invariant.reached);
      each = λ i l. c.loop-place.invariant.each i (omega (arith, l, n));
    })
