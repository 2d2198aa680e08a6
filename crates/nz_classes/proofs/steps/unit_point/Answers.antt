use Rattle.std.proofs.Common.{◌≡◌, ℕ, length, sym, ap, ◌∙◌, subst}
use Rattle.std.specs.Prelude.{unsigned_abs}
use Rattle.std.specs.List.{AllByRecursion as Each}
use Rattle.nz_spec.specs.Vectors.{HasWidth, combination}
use Rattle.nz_spec.proofs.SumLaws.{length-combination}
use Rattle.nz_linear.proofs.Units.{length-unit_at}
use Rattle.nz_linear.specs.Echelon.{unit_at}
use Rattle.nz_classes.specs.Classes.{IsRestOf}
use Rattle.nz_classes.specs.Walks.{paired}
use Rattle.nz_classes.proofs.CauseLemmas.{caused_sum, caused_unit}
use Rattle.nz_classes.proofs.EntryLemmas.{difference_is}
use Rattle.nz_classes.proofs.SimplexLemmas.{sides_wide, forms_wide, divisors_long, divisors_above, floors_of_quotients, rest_of_floors}
use Rattle.nz_classes.proofs.SortLemmas.{match_result}
use Rattle.nz_classes.proofs.StepLemmas.{caused_of}
use Rattle.nz_classes.proofs.steps.unit_point.Goals as goal

pub quotients_of-requires-clause-one_each : goal.quotients_of-requires-clause-one_each
quotients_of-requires-clause-one_each g c = divisors_long c.args.sides.now c.args.forms.now c.requires.simplex c.args.divisors.now c.requires.divisors ∙ sym c.requires.simplex.one_each

pub quotients_of-requires-clause-wide : goal.quotients_of-requires-clause-wide
quotients_of-requires-clause-wide g c = subst (λ (n : ℕ). Each (HasWidth n) c.args.forms.now) (sym c.requires.simplex.one_each) (forms_wide c.args.sides.now c.args.forms.now c.requires.simplex)

pub quotients_of-requires-clause-positive : goal.quotients_of-requires-clause-positive
quotients_of-requires-clause-positive g c = divisors_above c.args.sides.now c.args.forms.now c.requires.simplex c.args.divisors.now c.requires.divisors

pub sum_of_sides-requires-clause-wide : goal.sum_of_sides-requires-clause-wide
sum_of_sides-requires-clause-wide g c = sides_wide c.args.sides.now c.args.forms.now c.requires.simplex

pub returns-in-Err-sum_of_sides : goal.returns-in-Err-sum_of_sides
returns-in-Err-sum_of_sides g c =
    let sides = c.args.sides.now in
    let forms = c.args.forms.now in
    let s = c.requires.simplex in
    let z = floors_of_quotients sides forms s c.args.divisors.now c.args.column c.in-Ok.floors c.requires.divisors c.in-Ok.ensures in
    caused_of (unsigned_abs g.T.Scalar.HALF) sides forms c.in-Err-sum_of_sides.refusal (λ e. caused_sum g.T.Scalar.HALF g.T.Scalar.fits g.met.T.Scalar.room sides forms s c.args.column c.requires.column c.in-Ok.floors z (c.in-Err-sum_of_sides.ensures e))

pub combine-requires : goal.combine-requires
combine-requires g c =
    let w = length c.args.sides.now in
    ap length c.in-Ok-unit.ensures ∙ length-unit_at c.len.result c.args.column ∙ c.len.ensures ∙ sym (ap length c.in-Ok-sum_of_sides.ensures ∙ length-combination w c.in-Ok.floors c.args.sides.now (sides_wide c.args.sides.now c.args.forms.now c.requires.simplex))

pub returns-in-Ok-unit : goal.returns-in-Ok-unit
returns-in-Ok-unit g c =
    let sides = c.args.sides.now in
    let forms = c.args.forms.now in
    let s = c.requires.simplex in
    let w = length sides in
    let u = unit_at w c.args.column in
    let z = floors_of_quotients sides forms s c.args.divisors.now c.args.column c.in-Ok.floors c.requires.divisors c.in-Ok.ensures in
    let is_unit : c.in-Ok-unit.unit ≡ u = c.in-Ok-unit.ensures ∙ ap (λ (n : ℕ). unit_at n c.args.column) c.len.ensures in
    let rest = rest_of_floors sides forms s u c.in-Ok.floors (length-unit_at w c.args.column) z in
    match_result _ _ _ _
    (λ r e. subst (IsRestOf w (paired forms sides) u) (sym (difference_is r c.in-Ok-unit.unit c.in-Ok-sum_of_sides.sum _ _ u (combination w c.in-Ok.floors sides) e c.of_i64.ensures c.of_i64-in-Ok-unit.ensures is_unit c.in-Ok-sum_of_sides.ensures)) rest)
    (λ e h. caused_of (unsigned_abs g.T.Scalar.HALF) sides forms e (λ k. caused_unit g.T.Scalar.HALF g.T.Scalar.fits g.met.T.Scalar.room sides forms s c.args.column c.requires.column c.in-Ok.floors z _ _ c.in-Ok-unit.unit c.in-Ok-sum_of_sides.sum c.of_i64.ensures c.of_i64-in-Ok-unit.ensures is_unit c.in-Ok-sum_of_sides.ensures (h k)))
    c.combine.result c.combine.ensures
