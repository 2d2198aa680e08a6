use Rattle.std.proofs.Common.{pos, ap, ◌∙◌}
use Rattle.std.proofs.lemmas.Int.{to_z-of_z}
use Rattle.std.specs.Int.{w128}
use Rattle.std.specs.Prelude.{FitsSigned, unsigned_abs}
use Rattle.nz_scalar.proofs.GcdLemmas.{gcd_of_sizes, gcd_fits, such_of_result, some_of_result}
use Rattle.nz_scalar.proofs.wide.I128Scalar.gcd.Goals as goal

pub returns-clause-value : goal.returns-clause-value
returns-clause-value c =
    let is = gcd_of_sizes c.args.self c.args.other _ _ _ (c.unsigned_abs.ensures.value ∙ ap unsigned_abs (to_z-of_z w128 c.args.self c.ranges.self)) (c.unsigned_abs-2.ensures.value ∙ ap unsigned_abs (to_z-of_z w128 c.args.other c.ranges.other)) c.common_divisor-divisor.ensures in
    such_of_result (FitsSigned w128) c.ok.result c.try_from.result _ (pos c.common_divisor-divisor.result) c.ok.ensures.value c.try_from.ensures is

pub returns-clause-some : goal.returns-clause-some
returns-clause-some c =
    let is = gcd_of_sizes c.args.self c.args.other _ _ _ (c.unsigned_abs.ensures.value ∙ ap unsigned_abs (to_z-of_z w128 c.args.self c.ranges.self)) (c.unsigned_abs-2.ensures.value ∙ ap unsigned_abs (to_z-of_z w128 c.args.other c.ranges.other)) c.common_divisor-divisor.ensures in
    λ a b ne. some_of_result (FitsSigned w128) c.ok.result c.try_from.result (pos c.common_divisor-divisor.result) c.ok.ensures.value c.try_from.ensures
    (gcd_fits w128 c.args.self c.args.other c.common_divisor-divisor.result c.ranges.self c.ranges.other is a b ne)
