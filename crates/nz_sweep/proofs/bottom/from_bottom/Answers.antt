use Rattle.std.proofs.Common.{◌≡◌, ◌-◌, ℕ, suc, sym, subst, arith}
use Rattle.nz_spec.specs.Vectors.{Vector}
use Rattle.nz_sweep.specs.Bottom.{IsFromBottom}
use Rattle.nz_sweep.proofs.BottomLemmas.{bottom_start, zero_before_step, step_before}
use Rattle.nz_sweep.proofs.BottomCauses.{step_large}
use Rattle.nz_sweep.proofs.bottom.from_bottom.Goals as goal

pub vectors-init : goal.vectors-init
vectors-init g c = (
  omega arith,
  subst (λ (t : Vector). IsFromBottom c.args.width c.args.columns.now c.args.base.now c.args.column (g.T.Scalar.integer c.args.sign) c.args.end c.args.end t) (sym c.in-Ok.ensures)
      (bottom_start c.args.width c.args.columns.now c.args.base.now c.args.column c.args.end (g.T.Scalar.integer c.args.sign) c.requires.inside c.requires.sign),
)

pub cleared_at-requires-clause-inside : goal.cleared_at-requires-clause-inside
cleared_at-requires-clause-inside g c =
    let some = c.vectors-test.true in
    let low = c.vectors.invariant.0 in
    omega (arith, some, low, c.requires.end)

pub cleared_at-requires-clause-form : goal.cleared_at-requires-clause-form
cleared_at-requires-clause-form g c = c.vectors.invariant.1.width

pub cleared_at-requires-clause-zero : goal.cleared_at-requires-clause-zero
cleared_at-requires-clause-zero g c =
    let some = c.vectors-test.true in
    let s : c.vectors.first ≡ suc (c.vectors.first - 1) = omega (arith, some) in
    zero_before_step c.args.width c.args.columns.now c.args.base.now c.args.column (g.T.Scalar.integer c.args.sign) c.vectors.first (c.vectors.first - 1) c.args.end c.vectors.form s c.requires.widths c.requires.leading c.requires.end c.vectors.invariant.0 c.requires.before c.vectors.invariant.1

pub vectors-preserved : goal.vectors-preserved
vectors-preserved g c =
    let some = c.vectors-test.true in
    let low = c.vectors.invariant.0 in
    let s : c.vectors.first ≡ suc (c.vectors.first - 1) = omega (arith, some) in (
      omega (arith, low),
      step_before c.args.width c.args.columns.now c.args.base.now c.args.column (g.T.Scalar.integer c.args.sign) c.vectors.first (c.vectors.first - 1) c.args.end c.vectors.form _ s c.requires.widths c.requires.leading c.requires.end c.vectors.invariant.0 c.requires.before c.vectors.invariant.1 c.in-Ok-cleared_at.ensures,
    )

pub returns-in-Err : goal.returns-in-Err
returns-in-Err g c = λ e. absurd (c.in-Err.ensures e)

pub returns-in-Err-cleared_at : goal.returns-in-Err-cleared_at
returns-in-Err-cleared_at g c =
    let some = c.vectors-test.true in
    let low = c.vectors.invariant.0 in
    let s : c.vectors.first ≡ suc (c.vectors.first - 1) = omega (arith, some) in
    λ e. step_large g.T.Scalar.HALF c.args.width c.args.columns.now c.args.base.now c.requires.widths c.requires.leading c.args.column (g.T.Scalar.integer c.args.sign) c.args.end c.requires.end c.requires.before (c.vectors.first - 1) c.vectors.form (omega (arith, some, low)) (subst (λ (k : ℕ). IsFromBottom c.args.width c.args.columns.now c.args.base.now c.args.column (g.T.Scalar.integer c.args.sign) k c.args.end c.vectors.form) s c.vectors.invariant.1) (c.in-Err-cleared_at.ensures e)

pub returns : goal.returns
returns g c =
    let none = c.vectors-test.false in
    let e : c.vectors.first ≡ 0 = omega (arith, none) in
    subst (λ (k : _). IsFromBottom c.args.width c.args.columns.now c.args.base.now c.args.column (g.T.Scalar.integer c.args.sign) k c.args.end c.vectors.form) e c.vectors.invariant.1
