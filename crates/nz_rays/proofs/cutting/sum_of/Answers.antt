use Rattle.std.proofs.Common.{◌≡◌, get_or, pos, neg_ℤ, ℤ, subst}
use Rattle.nz_spec.specs.Vectors.{Vector}
use Rattle.nz_scalar.specs.Division.{HasGcd}
use Rattle.nz_vec.specs.declared.answers.Num.{Num}
use Rattle.nz_vec.specs.declared.answers.Num.TheVariants.{Range}
use Rattle.nz_vec.specs.Primitives.{IsPrimitivePart}
use Rattle.nz_rays.specs.Cuts.{IsSum}
use Rattle.nz_rays.specs.Measures.{IsCrossingWithin}
use Rattle.nz_pointed.proofs.RangeLemmas.{match_map}
use Rattle.nz_rays.proofs.RangeLemmas.{no_combination, no_divisor, sum_is, opposite_is}
use Rattle.nz_rays.proofs.cutting.sum_of.Goals as goal

pub returns-in-Ok : goal.returns-in-Ok
returns-in-Ok g c =
    let int = g.T.Scalar.integer in
    let eb : int c.in-Some.factor ≡ neg_ℤ (get_or c.args.values.now c.args.crossing.now.below (pos 0)) = opposite_is (int c.at.result) (int c.in-Some.factor) (int c.of_i64.result) _ c.of_i64.ensures c.in-Some.ensures.1 c.at.ensures in
    match_map (IsPrimitivePart c.in-Ok.sum) (IsSum c.args.values.now c.args.rays.now c.args.crossing.now) (λ (e : Num). e ≡ Range → (d : ℤ) → HasGcd c.in-Ok.sum d → ¬ g.T.Scalar.fits d) (λ (e : Num). e ≡ Range → ¬ IsCrossingWithin g.T.Scalar.HALF c.args.values.now c.args.rays.now c.args.crossing.now) c.primitive.result
    (λ x p. subst (λ (s : Vector). IsPrimitivePart s x) (sum_is c.args.values.now c.args.rays.now c.args.crossing.now (int c.at-over.result) (int c.in-Some.factor) c.at-2.result.now c.at-3.result.now c.in-Ok.sum c.at-over.ensures eb c.at-2.ensures c.at-3.ensures c.in-Ok.ensures) p)
    (λ e n r. no_divisor g.T.Scalar.HALF g.T.Scalar.fits g.met.T.Scalar.room c.args.values.now c.args.rays.now c.args.crossing.now (int c.at-over.result) (int c.in-Some.factor) c.at-2.result.now c.at-3.result.now c.in-Ok.sum c.at-over.ensures eb c.at-2.ensures c.at-3.ensures c.in-Ok.ensures (n r))
    c.primitive.ensures

pub returns-in-Err : goal.returns-in-Err
returns-in-Err g c =
    let int = g.T.Scalar.integer in
    let eb : int c.in-Some.factor ≡ neg_ℤ (get_or c.args.values.now c.args.crossing.now.below (pos 0)) = opposite_is (int c.at.result) (int c.in-Some.factor) (int c.of_i64.result) _ c.of_i64.ensures c.in-Some.ensures.1 c.at.ensures in
    λ e. no_combination g.T.Scalar.HALF g.T.Scalar.fits g.met.T.Scalar.room c.args.values.now c.args.rays.now c.args.crossing.now (int c.at-over.result) (int c.in-Some.factor) c.at-2.result.now c.at-3.result.now c.at-over.ensures eb c.at-2.ensures c.at-3.ensures (c.in-Err.ensures e)
