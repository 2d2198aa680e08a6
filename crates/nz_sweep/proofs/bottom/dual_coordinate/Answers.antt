use Rattle.std.proofs.Common.{◌<◌, ℤ, pos, ◌*ℤ◌, ◌<ℤ◌, length, refl, sym, ap, ◌∙◌, subst, arith}
use Rattle.nz_spec.specs.Vectors.{Vector, dot, entry}
use Rattle.nz_range.specs.Measures.{pair_measure}
use Rattle.nz_range.proofs.Causes.{value_cause}
use Rattle.nz_sweep.specs.Duals.{vector_at}
use Rattle.nz_sweep.specs.Bottom.{column_at}
use Rattle.nz_sweep.proofs.BottomLemmas.{columns_length, lead_within, lead_at, lead_nonzero, leads_later, vector_is, dual_found}
use Rattle.nz_sweep.proofs.BottomCauses.{dual_large, value_large}
use Rattle.nz_sweep.proofs.bottom.dual_coordinate.Goals as goal

pub bounds-columns-place : goal.bounds-columns-place
bounds-columns-place g c = let n = columns_length c.args.columns.now c.args.base.now c.requires.leading in omega (arith, n, c.requires.inside)

pub at-requires : goal.at-requires
at-requires g c = subst (λ (v : Vector). column_at c.args.columns.now c.args.place < length v) (sym (vector_is c.args.base.now c.args.place c.index-base-place.result c.requires.inside c.index-base-place.is)) (lead_within (vector_at c.args.base.now c.args.place) (column_at c.args.columns.now c.args.place) (lead_at c.args.columns.now c.args.base.now c.args.place c.requires.leading c.requires.inside))

pub sign_of-sign-requires : goal.sign_of-sign-requires
sign_of-sign-requires g c = λ q. lead_nonzero c.args.columns.now c.args.base.now c.args.place c.requires.leading c.requires.inside (ap (λ (v : Vector). entry v (column_at c.args.columns.now c.args.place)) (sym (vector_is c.args.base.now c.args.place c.index-base-place.result c.requires.inside c.index-base-place.is)) ∙ sym c.at.ensures ∙ q)

pub from_bottom-requires-clause-before : goal.from_bottom-requires-clause-before
from_bottom-requires-clause-before g c = λ i l. leads_later c.args.columns.now c.args.base.now i c.args.place c.requires.leading l c.requires.inside

pub returns-in-Some : goal.returns-in-Some
returns-in-Some g c =
    let Z = g.T.Scalar.integer in
    let k = column_at c.args.columns.now c.args.place in
    dual_found c.args.width c.args.columns.now c.args.base.now c.args.place k (Z c.sign_of-sign.result) (Z c.at.result) (Z c.in-Some.divisor) c.in-Ok.form (vector_at c.args.base.now c.args.place) refl refl
    (c.at.ensures ∙ ap (λ (v : Vector). entry v k) (vector_is c.args.base.now c.args.place c.index-base-place.result c.requires.inside c.index-base-place.is))
    c.sign_of-sign.ensures.0 c.sign_of-sign.ensures.1 c.in-Ok.ensures
    (c.in-Some.ensures.1 ∙ ap (dot c.in-Ok.form) (vector_is c.args.base.now c.args.place c.index-base-place-2.result c.requires.inside c.index-base-place-2.is))

pub returns-in-Err : goal.returns-in-Err
returns-in-Err g c =
    let Z = g.T.Scalar.integer in
    let k = column_at c.args.columns.now c.args.place in
    λ e. dual_large g.T.Scalar.HALF c.args.width c.args.columns.now c.args.base.now c.requires.widths c.requires.leading c.args.place (Z c.sign_of-sign.result) c.requires.inside c.sign_of-sign.ensures.0
    (subst (λ (x : ℤ). pos 0 <ℤ (Z c.sign_of-sign.result *ℤ x)) (c.at.ensures ∙ ap (λ (v : Vector). entry v k) (vector_is c.args.base.now c.args.place c.index-base-place.result c.requires.inside c.index-base-place.is)) c.sign_of-sign.ensures.1)
    (c.in-Err.ensures e)

pub returns-in-None : goal.returns-in-None
returns-in-None g c =
    let Z = g.T.Scalar.integer in
    let k = column_at c.args.columns.now c.args.place in
    λ _. value_large g.T.Scalar.HALF c.args.width c.args.columns.now c.args.base.now c.requires.widths c.requires.leading c.args.place (Z c.sign_of-sign.result) c.in-Ok.form c.requires.inside c.sign_of-sign.ensures.0
    (subst (λ (x : ℤ). pos 0 <ℤ (Z c.sign_of-sign.result *ℤ x)) (c.at.ensures ∙ ap (λ (v : Vector). entry v k) (vector_is c.args.base.now c.args.place c.index-base-place.result c.requires.inside c.index-base-place.is)) c.sign_of-sign.ensures.1)
    c.in-Ok.ensures
    (subst (λ (v : Vector). g.T.Scalar.HALF <ℤ pos (pair_measure c.in-Ok.form v)) (vector_is c.args.base.now c.args.place c.index-base-place-2.result c.requires.inside c.index-base-place-2.is) (value_cause g.T.Scalar.HALF g.T.Scalar.fits g.met.T.Scalar.room c.in-Ok.form c.index-base-place-2.result c.in-None.ensures))
