use Rattle.std.proofs.Common.{◌<◌, inr, refl, length, arith}
use Rattle.nz_vec.proofs.DivisorLemmas.{divisors_nil}
use Rattle.nz_degree.proofs.Divisors.{false_not_true, degree_next, degrees_all, denominator_one, denominator_gcd, denominator_lacks}
use Rattle.nz_degree.proofs.denominators.denominator.Goals as goal

pub loop-place-init : goal.loop-place-init
loop-place-init g c = divisors_nil _ c.of_i64-held.ensures

pub loop-place-preserved : goal.loop-place-preserved
loop-place-preserved g c =
    let l : c.loop-place.place < length c.args.list.now = omega (arith, c.len-place-end.ensures) in
    degree_next c.args.grading.now c.args.list.now c.loop-place.place c.at-row.result.now (g.T.Scalar.integer c.in-Some.degree) (g.T.Scalar.integer c.loop-place.held) _ l c.at-row.ensures c.in-Some.ensures.1 c.loop-place.invariant c.joint_divisor-held.ensures

pub returns-then-is_zero : goal.returns-then-is_zero
returns-then-is_zero g c =
    denominator_one c.args.grading.now c.args.list.now (g.T.Scalar.integer c.loop-place.held) (degrees_all c.args.grading.now c.args.list.now c.loop-place.place _ (omega (arith, c.len-place-end.ensures)) c.loop-place.invariant) _ (c.if-is_zero.ensures.0 refl) c.of_i64.ensures

pub returns-in-Some-gcd : goal.returns-in-Some-gcd
returns-in-Some-gcd g c =
    denominator_gcd c.args.grading.now c.args.list.now (g.T.Scalar.integer c.loop-place.held) (degrees_all c.args.grading.now c.args.list.now c.loop-place.place _ (omega (arith, c.len-place-end.ensures)) c.loop-place.invariant) _ _ (λ z. absurd (false_not_true (c.if-is_zero.ensures.1 z))) c.of_i64-2.ensures c.in-Some-gcd.ensures.value.1

pub returns-in-None-gcd : goal.returns-in-None-gcd
returns-in-None-gcd g c = (
  refl,
  inr (denominator_lacks c.args.grading.now c.args.list.now (g.T.Scalar.integer c.loop-place.held) (degrees_all c.args.grading.now c.args.list.now c.loop-place.place _ (omega (arith, c.len-place-end.ensures)) c.loop-place.invariant) g.T.Scalar.fits _ (λ z. absurd (false_not_true (c.if-is_zero.ensures.1 z))) c.of_i64-2.ensures c.in-None-gcd.ensures.value),
)
