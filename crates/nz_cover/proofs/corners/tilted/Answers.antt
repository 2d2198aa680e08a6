use Rattle.std.proofs.Common.{[], ◌∷◌, sym, ap, ◌∙◌, subst}
use Rattle.std.specs.Prelude.{unsigned_abs}
use Rattle.nz_spec.specs.Vectors.{Vector}
use Rattle.nz_scalar.specs.Division.{HasGcd}
use Rattle.nz_vec.specs.Primitives.{IsPrimitivePart}
use Rattle.nz_range.proofs.Causes.{value_for, combination_for, gcd_for}
use Rattle.nz_pointed.proofs.RangeLemmas.{match_map, first_of_two, second_of_two}
use Rattle.nz_cover.proofs.CornerLemmas.{tilted_sum, size_of_factor}
use Rattle.nz_cover.proofs.corners.tilted.Goals as goal

pub returns-in-None : goal.returns-in-None
returns-in-None g c = λ e. value_for g.T.Scalar.HALF g.T.Scalar.fits g.met.T.Scalar.room c.args.ray.now c.args.form.now (c.args.facet.now ∷ c.args.form.now ∷ []) (second_of_two c.args.facet.now c.args.form.now) c.in-None.ensures

pub returns-in-Ok : goal.returns-in-Ok
returns-in-Ok g c =
    let sum = c.in-Ok.ensures ∙ tilted_sum c.args.ray.now c.args.form.now c.args.facet.now _ _ c.in-Some.ensures.1 c.requires.factor in
    match_map _ _ _ _ c.primitive.result
    (λ r p. subst (λ (x : Vector). IsPrimitivePart x r) {x = c.in-Ok.sum} sum p)
    (λ e n k. gcd_for g.T.Scalar.HALF g.T.Scalar.fits g.met.T.Scalar.room c.args.ray.now c.args.form.now c.args.facet.now _ _ (c.args.facet.now ∷ c.args.form.now ∷ []) (second_of_two c.args.facet.now c.args.form.now) (first_of_two c.args.facet.now c.args.form.now) (ap unsigned_abs c.in-Some.ensures.1) (size_of_factor _ _ c.requires.factor)
    (λ d h. n k d (subst (λ (x : Vector). HasGcd x d) (sym c.in-Ok.ensures) h)))
    c.primitive.ensures

pub returns-in-Err : goal.returns-in-Err
returns-in-Err g c = λ e. combination_for g.T.Scalar.HALF g.T.Scalar.fits g.met.T.Scalar.room c.args.ray.now c.args.form.now c.args.facet.now _ _ (c.args.facet.now ∷ c.args.form.now ∷ []) (second_of_two c.args.facet.now c.args.form.now) (first_of_two c.args.facet.now c.args.form.now) (ap unsigned_abs c.in-Some.ensures.1) (size_of_factor _ _ c.requires.factor) (c.in-Err.ensures e)
