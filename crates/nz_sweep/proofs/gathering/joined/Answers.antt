use Rattle.std.proofs.Common.{◌≡◌, ◌<ℤ◌, ◌*ℤ◌, ℤ, pos, sym, ap, subst}
use Rattle.std.specs.Prelude.{unsigned_abs}
use Rattle.nz_vec.specs.declared.answers.Num.{Num}
use Rattle.nz_vec.specs.declared.answers.Num.TheVariants.{Range}
use Rattle.std.proofs.lemmas.Result.{IfOk-weaker}
use Rattle.nz_linear.proofs.Signs.{mul_pos}
use Rattle.nz_sweep.specs.Duals.{Coordinate}
use Rattle.nz_sweep.specs.Numbers.{SomeNumberLarge, IsTakingNumber}
use Rattle.nz_sweep.specs.Rounds.{IsInLowestTerms, IsTakenIn}
use Rattle.nz_sweep.proofs.DivisionCauses.{gcd_large}
use Rattle.nz_sweep.proofs.GatherCauses.{factors_are, own_divisor_large, multiple_large, factor_large, taking_large, taken_in, taking_views, above_size, result_map}
use Rattle.nz_sweep.proofs.NumberLemmas.{unfit_large}
use Rattle.nz_sweep.proofs.LowerLemmas.{Factors, factors_of, joined_of, gcd_above}
use Rattle.nz_sweep.proofs.gathering.joined.Goals as goal

pub lowest-requires : goal.lowest-requires
lowest-requires g c =
    let Z = g.T.Scalar.integer in
    let eo : c.args.own.now.divisor ≡ Z c.own.inside.divisor = sym (ap (λ (t : Coordinate). t.divisor) c.own.view_is) in
    let et : c.args.other.now.divisor ≡ Z c.other.inside.divisor = sym (ap (λ (t : Coordinate). t.divisor) c.other.view_is) in
    let po : pos 0 <ℤ Z c.own.inside.divisor = subst (λ (t : ℤ). pos 0 <ℤ t) eo c.requires.own in
    let pt : pos 0 <ℤ Z c.other.inside.divisor = subst (λ (t : ℤ). pos 0 <ℤ t) et c.requires.other in
    let k : Factors (Z c.own.inside.divisor) (Z c.other.inside.divisor) (Z c.floor-first.result) (Z c.floor-second.result) = factors_of (Z c.own.inside.divisor) (Z c.other.inside.divisor) (Z c.in-Some.common) (Z c.floor-first.result) (Z c.floor-second.result) po pt c.in-Some.ensures.value.1 c.floor-first.ensures c.floor-second.ensures in
    subst (λ (t : ℤ). pos 0 <ℤ t) (sym c.in-Some-try_mul.ensures.1) (mul_pos (Z c.floor-first.result) (Z c.own.inside.divisor) k.factor po)

pub returns-in-Ok-clause-joined : goal.returns-in-Ok-clause-joined
returns-in-Ok-clause-joined g c =
    let Z = g.T.Scalar.integer in
    let eo : c.args.own.now.divisor ≡ Z c.own.inside.divisor = sym (ap (λ (t : Coordinate). t.divisor) c.own.view_is) in
    let et : c.args.other.now.divisor ≡ Z c.other.inside.divisor = sym (ap (λ (t : Coordinate). t.divisor) c.other.view_is) in
    let po : pos 0 <ℤ Z c.own.inside.divisor = subst (λ (t : ℤ). pos 0 <ℤ t) eo c.requires.own in
    let pt : pos 0 <ℤ Z c.other.inside.divisor = subst (λ (t : ℤ). pos 0 <ℤ t) et c.requires.other in
    let k : Factors (Z c.own.inside.divisor) (Z c.other.inside.divisor) (Z c.floor-first.result) (Z c.floor-second.result) = factors_of (Z c.own.inside.divisor) (Z c.other.inside.divisor) (Z c.in-Some.common) (Z c.floor-first.result) (Z c.floor-second.result) po pt c.in-Some.ensures.value.1 c.floor-first.ensures c.floor-second.ensures in
    IfOk-weaker _ _ _ (λ r l. joined_of (Z c.args.quotient) (Z c.floor-first.result) (Z c.floor-second.result) (Z c.in-Some-try_mul-2.factor) (Z c.in-Some-try_mul.divisor) (Z c.own.inside.divisor) (Z c.other.inside.divisor) c.args.own.now c.args.other.now r c.in-Ok.form c.own.inside.form c.other.inside.form eo et (sym (ap (λ (t : Coordinate). t.form) c.own.view_is)) (sym (ap (λ (t : Coordinate). t.form) c.other.view_is)) k c.in-Some-try_mul.ensures.1 c.in-Some-try_mul-2.ensures.1 c.in-Ok.ensures l) c.lowest.ensures.lowered

pub returns-in-None-clause-taken : goal.returns-in-None-clause-taken
returns-in-None-clause-taken g c =
    let Z = g.T.Scalar.integer in
    let po : pos 0 <ℤ Z c.own.inside.divisor = subst (λ (t : Coordinate). pos 0 <ℤ t.divisor) (sym c.own.view_is) c.requires.own in
    let pt : pos 0 <ℤ Z c.other.inside.divisor = subst (λ (t : Coordinate). pos 0 <ℤ t.divisor) (sym c.other.view_is) c.requires.other in
    λ _. taking_views g.T.Scalar.HALF (Z c.args.quotient) (record { form = c.own.inside.form; divisor = Z c.own.inside.divisor }) c.args.own.now (record { form = c.other.inside.form; divisor = Z c.other.inside.divisor }) c.args.other.now c.own.view_is c.other.view_is
    (own_divisor_large _ _ _ _ (gcd_large _ _ g.met.T.Scalar.room (Z c.own.inside.divisor) (Z c.other.inside.divisor) po c.in-None.ensures.value))

pub returns-in-None-try_mul-clause-taken : goal.returns-in-None-try_mul-clause-taken
returns-in-None-try_mul-clause-taken g c =
    let Z = g.T.Scalar.integer in
    let po : pos 0 <ℤ Z c.own.inside.divisor = subst (λ (t : Coordinate). pos 0 <ℤ t.divisor) (sym c.own.view_is) c.requires.own in
    let pt : pos 0 <ℤ Z c.other.inside.divisor = subst (λ (t : Coordinate). pos 0 <ℤ t.divisor) (sym c.other.view_is) c.requires.other in
    let k = factors_are (record { form = c.own.inside.form; divisor = Z c.own.inside.divisor }) (record { form = c.other.inside.form; divisor = Z c.other.inside.divisor }) (Z c.in-Some.common) (Z c.floor-first.result) (Z c.floor-second.result) po pt c.in-Some.ensures.value.1 c.floor-first.ensures c.floor-second.ensures in
    λ _. taking_views g.T.Scalar.HALF (Z c.args.quotient) (record { form = c.own.inside.form; divisor = Z c.own.inside.divisor }) c.args.own.now (record { form = c.other.inside.form; divisor = Z c.other.inside.divisor }) c.args.other.now c.own.view_is c.other.view_is
    (multiple_large _ _ _ _ (Z c.floor-first.result *ℤ Z c.own.inside.divisor) (Z c.floor-first.result) (Z c.floor-second.result) k (unfit_large _ _ g.met.T.Scalar.room (Z c.floor-first.result *ℤ Z c.own.inside.divisor) c.in-None-try_mul.ensures))

pub returns-in-None-try_mul-2-clause-taken : goal.returns-in-None-try_mul-2-clause-taken
returns-in-None-try_mul-2-clause-taken g c =
    let Z = g.T.Scalar.integer in
    let po : pos 0 <ℤ Z c.own.inside.divisor = subst (λ (t : Coordinate). pos 0 <ℤ t.divisor) (sym c.own.view_is) c.requires.own in
    let pt : pos 0 <ℤ Z c.other.inside.divisor = subst (λ (t : Coordinate). pos 0 <ℤ t.divisor) (sym c.other.view_is) c.requires.other in
    let k = factors_are (record { form = c.own.inside.form; divisor = Z c.own.inside.divisor }) (record { form = c.other.inside.form; divisor = Z c.other.inside.divisor }) (Z c.in-Some.common) (Z c.floor-first.result) (Z c.floor-second.result) po pt c.in-Some.ensures.value.1 c.floor-first.ensures c.floor-second.ensures in
    λ _. taking_views g.T.Scalar.HALF (Z c.args.quotient) (record { form = c.own.inside.form; divisor = Z c.own.inside.divisor }) c.args.own.now (record { form = c.other.inside.form; divisor = Z c.other.inside.divisor }) c.args.other.now c.own.view_is c.other.view_is
    (factor_large _ _ _ _ (Z c.floor-first.result *ℤ Z c.own.inside.divisor) (Z c.floor-first.result) (Z c.floor-second.result) k (unfit_large _ _ g.met.T.Scalar.room (Z c.args.quotient *ℤ Z c.floor-second.result) c.in-None-try_mul-2.ensures))

pub returns-in-Err-clause-taken : goal.returns-in-Err-clause-taken
returns-in-Err-clause-taken g c =
    let Z = g.T.Scalar.integer in
    let po : pos 0 <ℤ Z c.own.inside.divisor = subst (λ (t : Coordinate). pos 0 <ℤ t.divisor) (sym c.own.view_is) c.requires.own in
    let pt : pos 0 <ℤ Z c.other.inside.divisor = subst (λ (t : Coordinate). pos 0 <ℤ t.divisor) (sym c.other.view_is) c.requires.other in
    let k = factors_are (record { form = c.own.inside.form; divisor = Z c.own.inside.divisor }) (record { form = c.other.inside.form; divisor = Z c.other.inside.divisor }) (Z c.in-Some.common) (Z c.floor-first.result) (Z c.floor-second.result) po pt c.in-Some.ensures.value.1 c.floor-first.ensures c.floor-second.ensures in
    λ e. taking_views g.T.Scalar.HALF (Z c.args.quotient) (record { form = c.own.inside.form; divisor = Z c.own.inside.divisor }) c.args.own.now (record { form = c.other.inside.form; divisor = Z c.other.inside.divisor }) c.args.other.now c.own.view_is c.other.view_is
    (taking_large _ _ g.met.T.Scalar.room (Z c.args.quotient) (record { form = c.own.inside.form; divisor = Z c.own.inside.divisor }) (record { form = c.other.inside.form; divisor = Z c.other.inside.divisor }) (Z c.floor-first.result *ℤ Z c.own.inside.divisor) (Z c.floor-first.result) (Z c.floor-second.result) (Z c.in-Some-try_mul-2.factor) po k c.in-Some-try_mul-2.ensures.1 (c.in-Err.ensures e))

pub returns-in-Ok-clause-taken : goal.returns-in-Ok-clause-taken
returns-in-Ok-clause-taken g c =
    let Z = g.T.Scalar.integer in
    let po : pos 0 <ℤ Z c.own.inside.divisor = subst (λ (t : Coordinate). pos 0 <ℤ t.divisor) (sym c.own.view_is) c.requires.own in
    let pt : pos 0 <ℤ Z c.other.inside.divisor = subst (λ (t : Coordinate). pos 0 <ℤ t.divisor) (sym c.other.view_is) c.requires.other in
    let k = factors_are (record { form = c.own.inside.form; divisor = Z c.own.inside.divisor }) (record { form = c.other.inside.form; divisor = Z c.other.inside.divisor }) (Z c.in-Some.common) (Z c.floor-first.result) (Z c.floor-second.result) po pt c.in-Some.ensures.value.1 c.floor-first.ensures c.floor-second.ensures in
    result_map (IsInLowestTerms c.in-Ok.form (Z c.in-Some-try_mul.divisor)) (IsTakenIn (Z c.args.quotient) c.args.own.now c.args.other.now) (λ (e : Num). e ≡ Range → g.T.Scalar.HALF <ℤ Z c.in-Some-try_mul.divisor) (λ (e : Num). e ≡ Range → SomeNumberLarge g.T.Scalar.HALF (IsTakingNumber (Z c.args.quotient) c.args.own.now c.args.other.now)) c.lowest.result
    (λ r l. subst (λ (u : Coordinate). IsTakenIn (Z c.args.quotient) u c.args.other.now r) c.own.view_is (subst (λ (u : Coordinate). IsTakenIn (Z c.args.quotient) (record { form = c.own.inside.form; divisor = Z c.own.inside.divisor }) u r) c.other.view_is (taken_in (Z c.args.quotient) (record { form = c.own.inside.form; divisor = Z c.own.inside.divisor }) (record { form = c.other.inside.form; divisor = Z c.other.inside.divisor }) r (Z c.floor-first.result *ℤ Z c.own.inside.divisor) (Z c.floor-first.result) (Z c.floor-second.result) (Z c.in-Some-try_mul.divisor) (Z c.in-Some-try_mul-2.factor) c.in-Ok.form k c.in-Some-try_mul.ensures.1 c.in-Some-try_mul-2.ensures.1 c.in-Ok.ensures l)))
    (λ e f h. taking_views g.T.Scalar.HALF (Z c.args.quotient) (record { form = c.own.inside.form; divisor = Z c.own.inside.divisor }) c.args.own.now (record { form = c.other.inside.form; divisor = Z c.other.inside.divisor }) c.args.other.now c.own.view_is c.other.view_is (multiple_large _ _ _ _ (Z c.floor-first.result *ℤ Z c.own.inside.divisor) (Z c.floor-first.result) (Z c.floor-second.result) k (subst (λ (u : ℤ). g.T.Scalar.HALF <ℤ pos (unsigned_abs u)) c.in-Some-try_mul.ensures.1 (above_size _ _ (f h)))))
    c.lowest.ensures.lowest

pub floor-first-requires : goal.floor-first-requires
floor-first-requires g c =
    let Z = g.T.Scalar.integer in
    let po : pos 0 <ℤ Z c.own.inside.divisor = subst (λ (t : Coordinate). pos 0 <ℤ t.divisor) (sym c.own.view_is) c.requires.own in
    gcd_above (Z c.own.inside.divisor) (Z c.other.inside.divisor) (Z c.in-Some.common) po c.in-Some.ensures.value.1

pub floor-second-requires : goal.floor-second-requires
floor-second-requires g c =
    let Z = g.T.Scalar.integer in
    let po : pos 0 <ℤ Z c.own.inside.divisor = subst (λ (t : Coordinate). pos 0 <ℤ t.divisor) (sym c.own.view_is) c.requires.own in
    gcd_above (Z c.own.inside.divisor) (Z c.other.inside.divisor) (Z c.in-Some.common) po c.in-Some.ensures.value.1
