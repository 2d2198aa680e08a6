use Rattle.std.proofs.Common.{ℕ, length, refl, sym, subst}
use Rattle.std.specs.Prelude.{unsigned_abs}
use Rattle.std.specs.List.{AllByRecursion as Each}
use Rattle.nz_spec.specs.Vectors.{HasWidth, unit_vectors}
use Rattle.nz_classes.specs.Walks.{paired}
use Rattle.nz_classes.proofs.CauseLemmas.{caused_value}
use Rattle.nz_classes.proofs.SimplexLemmas.{forms_wide}
use Rattle.nz_classes.proofs.StepLemmas.{caused_of, rests_named, rests_wide}
use Rattle.nz_classes.proofs.steps.prepare.Goals as goal

pub values_of_all-requires-clause-vectors_wide : goal.values_of_all-requires-clause-vectors_wide
values_of_all-requires-clause-vectors_wide g c =
    let w = length c.args.sides.now in
    subst (λ (n : ℕ). Each (HasWidth n) c.in-Ok.units) (sym c.requires.simplex.one_each) (rests_wide w (paired c.args.forms.now c.args.sides.now) (unit_vectors w) c.in-Ok.units c.in-Ok.ensures)

pub values_of_all-requires-clause-forms_wide : goal.values_of_all-requires-clause-forms_wide
values_of_all-requires-clause-forms_wide g c = subst (λ (n : ℕ). Each (HasWidth n) c.args.forms.now) (sym c.requires.simplex.one_each) (forms_wide c.args.sides.now c.args.forms.now c.requires.simplex)

pub returns-in-Err-values_of_all : goal.returns-in-Err-values_of_all
returns-in-Err-values_of_all g c =
    let w = length c.args.sides.now in
    caused_of (unsigned_abs g.T.Scalar.HALF) c.args.sides.now c.args.forms.now c.in-Err-values_of_all.refusal (λ e. caused_value g.T.Scalar.HALF g.T.Scalar.fits g.met.T.Scalar.room c.args.sides.now c.args.forms.now c.requires.simplex c.in-Ok.units (rests_named c.args.sides.now c.args.forms.now c.requires.simplex (unit_vectors w) c.in-Ok.units c.in-Ok.ensures) (c.in-Err-values_of_all.ensures e))

pub returns : goal.returns
returns g c = (refl, refl, record { simplex = c.requires.simplex; divisors_are = c.requires.divisors; unit_points = c.in-Ok.ensures; values_are = c.in-Ok-values_of_all.ensures })
