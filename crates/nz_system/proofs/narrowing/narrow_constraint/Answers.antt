use Rattle.std.proofs.Common.{sym, subst}
use Rattle.std.specs.Prelude.{ℤ}
use Rattle.nz_vec.specs.Conditions.{condition_of}
use Rattle.nz_vec.specs.declared.constraints.Constraint.{Constraint}
use Rattle.nz_system.specs.Narrowing.{HasConditionOutside, zero_form, not_negative_form}
use Rattle.nz_system.proofs.narrowing.narrow_constraint.Goals as goal

pub returns-in-Err-clause-cause : goal.returns-in-Err-clause-cause
returns-in-Err-clause-cause g c = λ e. subst (λ (k : Constraint ℤ). HasConditionOutside g.T.Scalar.fits (condition_of (λ z. z) k)) (sym c.in-Zero.is) (zero_form (c.in-Err.ensures.cause e))

pub returns-in-Err-narrow_row-clause-cause : goal.returns-in-Err-narrow_row-clause-cause
returns-in-Err-narrow_row-clause-cause g c = λ e. subst (λ (k : Constraint ℤ). HasConditionOutside g.T.Scalar.fits (condition_of (λ z. z) k)) (sym c.in-NotNegative.is) (not_negative_form (c.in-Err-narrow_row.ensures.cause e))
