use Rattle.std.proofs.Common.{◌-ℤ◌, inl, inr, ap, ◌∙◌, arith}
use Rattle.std.proofs.lemmas.Int.{ints}
use Rattle.nz_sweep.proofs.BottomLemmas.{least_factors_of, gcd_positive}
use Rattle.nz_sweep.proofs.BottomCauses.{no_common, no_opposite, signed_size}
use Rattle.nz_sweep.proofs.bottom.least_factors.Goals as goal

pub returns-in-None : goal.returns-in-None
returns-in-None g c = let Z = g.T.Scalar.integer in inr (no_common g.T.Scalar.HALF g.T.Scalar.fits g.met.T.Scalar.room (Z c.args.value) (Z c.args.pivot) c.requires c.in-None.ensures.value)

pub returns-in-None-signed_quotient : goal.returns-in-None-signed_quotient
returns-in-None-signed_quotient g c = inr c.in-None-signed_quotient.ensures

pub returns-in-None-signed_quotient-2 : goal.returns-in-None-signed_quotient-2
returns-in-None-signed_quotient-2 g c = inl c.in-None-signed_quotient-2.ensures

pub returns-in-None-try_sub : goal.returns-in-None-try_sub
returns-in-None-try_sub g c =
    let Z = g.T.Scalar.integer in
    let p = gcd_positive (Z c.args.value) (Z c.args.pivot) (Z c.sign_of-sign.result) (Z c.in-Some.common) c.sign_of-sign.ensures.1 c.in-Some.ensures.value.1 in
    let k = signed_size (Z c.args.value) (Z c.in-Some.common) (Z c.sign_of-sign.result) (Z c.in-Some-signed_quotient-2.taken) p c.sign_of-sign.ensures.0 c.in-Some-signed_quotient-2.ensures in
    inl (no_opposite g.T.Scalar.HALF g.T.Scalar.fits g.met.T.Scalar.room (Z c.args.value) (Z c.of_i64.result) (Z c.in-Some-signed_quotient-2.taken) c.of_i64.ensures k c.in-None-try_sub.ensures)

pub returns-in-Some-try_sub : goal.returns-in-Some-try_sub
returns-in-Some-try_sub g c =
    let Z = g.T.Scalar.integer in
    let p = gcd_positive (Z c.args.value) (Z c.args.pivot) (Z c.sign_of-sign.result) (Z c.in-Some.common) c.sign_of-sign.ensures.1 c.in-Some.ensures.value.1 in
    let k = signed_size (Z c.args.pivot) (Z c.in-Some.common) (Z c.sign_of-sign.result) (Z c.in-Some-signed_quotient.form) p c.sign_of-sign.ensures.0 c.in-Some-signed_quotient.ensures in
    let l = signed_size (Z c.args.value) (Z c.in-Some.common) (Z c.sign_of-sign.result) (Z c.in-Some-signed_quotient-2.taken) p c.sign_of-sign.ensures.0 c.in-Some-signed_quotient-2.ensures in
    let e = c.in-Some-try_sub.ensures.1 ∙ ap (λ t. t -ℤ Z c.in-Some-signed_quotient-2.taken) c.of_i64.ensures in (
      least_factors_of (Z c.args.value) (Z c.args.pivot) (Z c.in-Some.common) (Z c.sign_of-sign.result) (Z c.in-Some-signed_quotient.form) (Z c.in-Some-signed_quotient-2.taken) (Z c.in-Some-try_sub.unit) c.in-Some.ensures.value.1 c.sign_of-sign.ensures.0 c.sign_of-sign.ensures.1 c.in-Some-signed_quotient.ensures c.in-Some-signed_quotient-2.ensures e,
      k,
      omega (arith, ints, l, e),
    )
