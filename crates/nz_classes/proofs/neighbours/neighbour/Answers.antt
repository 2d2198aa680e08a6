use Rattle.std.proofs.Common.{inl, refl, ℕ, [], length, get_or, sym, ap, ◌∙◌, subst, arith}
use Rattle.std.specs.Prelude.{unsigned_abs}
use Rattle.std.specs.List.{AllByRecursion as Each}
use Rattle.nz_spec.specs.Vectors.{Vector, HasWidth, plus, minus, opposite, combination, values_at}
use Rattle.nz_linear.proofs.Units.{length-unit_at}
use Rattle.nz_linear.proofs.VectorLaws.{length-plus}
use Rattle.nz_linear.specs.Echelon.{unit_at}
use Rattle.nz_classes.specs.Classes.{IsRestOf}
use Rattle.nz_classes.specs.Steps.{AreCarries, HasPairOutside, HasColumnOutside}
use Rattle.nz_classes.specs.Walks.{paired}
use Rattle.nz_classes.proofs.CauseLemmas.{caused_pair, caused_column}
use Rattle.nz_classes.proofs.SimplexLemmas.{sides_wide, divisors_long, floors_of_carries, rest_of_floors, rest_of_unit}
use Rattle.nz_classes.proofs.SortLemmas.{match_result}
use Rattle.nz_classes.proofs.StepLemmas.{caused_of, rest_named, units_long, values_long, forms_long, unit_is, values_is}
use Rattle.nz_classes.proofs.WalkLemmas.{point_of}
use Rattle.nz_classes.proofs.neighbours.neighbour.Goals as goal

pub at-requires : goal.at-requires
at-requires g c =
    let s = c.args.steps.now in
    omega (arith, c.requires.column, values_long s.sides.now s.forms.now s.divisors s.units s.values c.requires.prepared)

pub carries-requires-clause-more : goal.carries-requires-clause-more
carries-requires-clause-more g c =
    let s = c.args.steps.now in
    let p = c.requires.prepared in
    ap length (c.at.ensures ∙ values_is s.sides.now s.forms.now s.divisors s.units s.values p c.args.column c.requires.column) ∙ forms_long s.sides.now s.forms.now s.divisors s.units s.values p (get_or s.units c.args.column []) ∙ sym (ap length c.requires.values ∙ forms_long s.sides.now s.forms.now s.divisors s.units s.values p c.args.point.now)

pub carries-requires-clause-divisors : goal.carries-requires-clause-divisors
carries-requires-clause-divisors g c =
    let s = c.args.steps.now in
    let p = c.requires.prepared in
    divisors_long s.sides.now s.forms.now p.simplex s.divisors p.divisors_are ∙ sym (ap length c.requires.values ∙ forms_long s.sides.now s.forms.now s.divisors s.units s.values p c.args.point.now)

pub at-requires-in-Ok : goal.at-requires-in-Ok
at-requires-in-Ok g c =
    let s = c.args.steps.now in
    omega (arith, c.requires.column, units_long s.sides.now s.forms.now s.divisors s.units s.values c.requires.prepared)

pub moved-requires-clause-second_width : goal.moved-requires-clause-second_width
moved-requires-clause-second_width g c =
    let s = c.args.steps.now in
    let u = unit_is s.sides.now s.forms.now s.divisors s.units s.values c.requires.prepared c.args.column c.requires.column in
    ap length c.at-in-Ok.ensures ∙ u.width ∙ sym c.requires.width

pub moved-requires-clause-wide : goal.moved-requires-clause-wide
moved-requires-clause-wide g c =
    let s = c.args.steps.now in
    subst (λ (n : ℕ). Each (HasWidth n) s.sides.now) (sym c.requires.width) (sides_wide s.sides.now s.forms.now c.requires.prepared.simplex)

pub returns-in-Ok : goal.returns-in-Ok
returns-in-Ok g c =
    let st = c.args.steps.now in
    let sides = st.sides.now in
    let forms = st.forms.now in
    let p = c.requires.prepared in
    let s = p.simplex in
    let w = length sides in
    let ps = paired forms sides in
    let x = c.args.point.now in
    let y = get_or st.units c.args.column [] in
    let u = unit_at w c.args.column in
    let ks = c.in-Ok.carries in
    let vx = values_at forms x in
    let vy = values_at forms y in
    let n = minus (plus x y) (combination w (opposite ks) sides) in
    let hy = unit_is sides forms st.divisors st.units st.values p c.args.column c.requires.column in
    let at = c.at.ensures ∙ values_is sides forms st.divisors st.units st.values p c.args.column c.requires.column in
    let k = subst (λ (v : Vector). AreCarries v vy st.divisors ks) c.requires.values (subst (λ (v : Vector). AreCarries c.args.values.now v st.divisors ks) at c.in-Ok.ensures) in
    let z = floors_of_carries sides forms s st.divisors x y ks p.divisors_are c.requires.width hy.width c.requires.reduced hy.reduced k in
    let rest = rest_of_floors sides forms s (plus x y) (opposite ks) (length-plus w x y c.requires.width hy.width) z in
    let next = rest_of_unit sides forms s x u y n c.requires.width (length-unit_at w c.args.column) hy rest in
    let e = ap (λ (v : Vector). minus (plus x v) (combination (length x) (opposite ks) sides)) c.at-in-Ok.ensures ∙ ap (λ (m : ℕ). minus (plus x y) (combination m (opposite ks) sides)) c.requires.width in
    match_result _ _ _ _
    (λ r h. subst (IsRestOf w ps (plus x u)) (sym (h ∙ e)) next)
    (λ q h. caused_of (unsigned_abs g.T.Scalar.HALF) sides forms q (λ f. caused_column g.T.Scalar.HALF g.T.Scalar.fits g.met.T.Scalar.room sides forms s x y n ks vx vy st.divisors (inl (point_of sides forms s x c.requires.width c.requires.reduced)) (rest_named sides forms s u y hy) (rest_named sides forms s (plus x u) n next) c.requires.width hy.width refl k (subst (λ (v : Vector). HasColumnOutside g.T.Scalar.fits x v ks sides) c.at-in-Ok.ensures (h f))))
    c.moved.result c.moved.ensures

pub returns-in-Err : goal.returns-in-Err
returns-in-Err g c =
    let st = c.args.steps.now in
    let sides = st.sides.now in
    let forms = st.forms.now in
    let p = c.requires.prepared in
    let x = c.args.point.now in
    let y = get_or st.units c.args.column [] in
    let hy = unit_is sides forms st.divisors st.units st.values p c.args.column c.requires.column in
    let at = c.at.ensures ∙ values_is sides forms st.divisors st.units st.values p c.args.column c.requires.column in
    caused_of (unsigned_abs g.T.Scalar.HALF) sides forms c.in-Err.refusal (λ f. caused_pair g.T.Scalar.HALF g.T.Scalar.fits g.met.T.Scalar.room sides forms p.simplex x y c.requires.reduced hy.reduced
    (subst (λ (v : Vector). HasPairOutside g.T.Scalar.fits v (values_at forms y)) c.requires.values (subst (λ (v : Vector). HasPairOutside g.T.Scalar.fits c.args.values.now v) at (c.in-Err.ensures f))))
