use Rattle.std.proofs.Common.{refl}
use Rattle.std.proofs.lemmas.Int.{rem_below}
use Rattle.num_traits.proofs.Fits.{rem-fits}
use Rattle.nz_scalar.proofs.FloorLemmas.{size_pos, pos_of}
use Rattle.nz_scalar.proofs.GcdLemmas.{divisors_start, divisors_step, divisors_end}
use Rattle.nz_scalar.proofs.division.common_divisor.Goals as goal

pub steps-init : goal.steps-init
steps-init g c = (c.requires.first, c.requires.second, divisors_start _ _)

pub rem-rest-requires : goal.rem-rest-requires
rem-rest-requires g c =
    let exact = g.met.N.Integral.exact_law in
    let up = g.met.N.Unsigned.unsigned_law c.steps.y in
    let big = pos_of (g.N.Number.value c.steps.y) (λ h. cc (rw c.steps-test.true at ((c.is_zero.ensures.value exact).1 h))) up in
    g.met.N.Num.can_rem_law c.steps.x c.steps.y (λ e. g.met.N.Num.positive_divisor_law _ _ e c.steps.invariant.0 c.steps.invariant.1 big)

pub steps-smaller : goal.steps-smaller
steps-smaller g c =
    let exact = g.met.N.Integral.exact_law in
    let is = g.met.N.Num.rem_law _ _ _ c.rem-rest.ensures exact in
    rw is (rem_below (g.N.Number.value c.steps.x) (g.N.Number.value c.steps.y) (size_pos (g.N.Number.value c.steps.y) (λ h. cc (rw c.steps-test.true at ((c.is_zero.ensures.value exact).1 h)))))

pub steps-preserved : goal.steps-preserved
steps-preserved g c =
    let exact = g.met.N.Integral.exact_law in
    let is = g.met.N.Num.rem_law _ _ _ c.rem-rest.ensures exact in
    let low = g.met.N.Zero.zero_fits_law exact in (
      c.steps.invariant.1,
      rw is (rem-fits g.N.Number.fits (λ x y z. g.N.Number.between_law x y z exact) (g.N.Number.value c.steps.x) (g.N.Number.value c.steps.y) low c.steps.invariant.0 (g.met.N.Unsigned.unsigned_law c.steps.x)),
      divisors_step _ _ _ _ _ is c.steps.invariant.2,
    )

pub returns : goal.returns
returns g c =
    let exact = g.met.N.Integral.exact_law in
    let zero = (c.steps-test.ensures.value exact).0 refl in
    divisors_end _ _ _ _ zero (g.met.N.Unsigned.unsigned_law c.steps.x) c.steps.invariant.2
