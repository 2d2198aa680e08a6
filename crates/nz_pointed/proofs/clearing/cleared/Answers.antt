use Rattle.std.proofs.Common.{[], ◌∷◌, ℤ, ◌-ℤ◌, sym, ap, ◌∙◌, subst}
use Rattle.std.specs.Prelude.{unsigned_abs}
use Rattle.nz_spec.specs.Vectors.{Vector}
use Rattle.nz_scalar.specs.Division.{HasGcd}
use Rattle.nz_vec.specs.Primitives.{IsPrimitivePart}
use Rattle.nz_range.proofs.Causes.{value_for, opposite_for, combination_for, gcd_for}
use Rattle.nz_pointed.proofs.RangeLemmas.{match_map, size_of_opposite, first_of_two, second_of_two, cleared_sum}
use Rattle.nz_pointed.proofs.clearing.cleared.Goals as goal

pub returns-in-None : goal.returns-in-None
returns-in-None g c = λ e. value_for g.T.Scalar.HALF g.T.Scalar.fits g.met.T.Scalar.room c.args.form.now c.args.row.now (c.args.by.now ∷ c.args.row.now ∷ []) (second_of_two c.args.by.now c.args.row.now) c.in-None.ensures

pub returns-in-None-try_sub : goal.returns-in-None-try_sub
returns-in-None-try_sub g c = λ e. opposite_for g.T.Scalar.HALF g.T.Scalar.fits g.met.T.Scalar.room c.args.form.now c.args.row.now (g.T.Scalar.integer c.in-Some.at_row) (c.args.by.now ∷ c.args.row.now ∷ []) (second_of_two c.args.by.now c.args.row.now) c.in-Some.ensures.1
    (subst (λ (z : ℤ). ¬ g.T.Scalar.fits (z -ℤ g.T.Scalar.integer c.in-Some.at_row)) c.of_i64.ensures c.in-None-try_sub.ensures)

pub returns-in-Ok : goal.returns-in-Ok
returns-in-Ok g c =
    let sum = c.in-Ok.ensures ∙ cleared_sum c.args.form.now c.args.by.now c.args.row.now _ _ _ _ c.requires.value c.in-Some.ensures.1 c.of_i64.ensures c.in-Some-try_sub.ensures.1 in
    match_map _ _ _ _ c.primitive.result
    (λ r p. subst (λ (x : Vector). IsPrimitivePart x r) {x = c.in-Ok.sum} sum p)
    (λ e n k. gcd_for g.T.Scalar.HALF g.T.Scalar.fits g.met.T.Scalar.room c.args.form.now c.args.by.now c.args.row.now _ _ (c.args.by.now ∷ c.args.row.now ∷ []) (first_of_two c.args.by.now c.args.row.now) (second_of_two c.args.by.now c.args.row.now) (ap unsigned_abs c.requires.value) (size_of_opposite _ _ _ _ c.of_i64.ensures c.in-Some.ensures.1 c.in-Some-try_sub.ensures.1)
    (λ d h. n k d (subst (λ (x : Vector). HasGcd x d) (sym c.in-Ok.ensures) h)))
    c.primitive.ensures

pub returns-in-Err : goal.returns-in-Err
returns-in-Err g c = λ e. combination_for g.T.Scalar.HALF g.T.Scalar.fits g.met.T.Scalar.room c.args.form.now c.args.by.now c.args.row.now _ _ (c.args.by.now ∷ c.args.row.now ∷ []) (first_of_two c.args.by.now c.args.row.now) (second_of_two c.args.by.now c.args.row.now) (ap unsigned_abs c.requires.value) (size_of_opposite _ _ _ _ c.of_i64.ensures c.in-Some.ensures.1 c.in-Some-try_sub.ensures.1) (c.in-Err.ensures e)
