use Rattle.std.proofs.Common.{ℕ, refl, subst}
use Rattle.nz_sweep.specs.Numbers.{SomeNumberLarge, IsConstraintNumber}
use Rattle.nz_frame.specs.Constraining.{finding_base, constraining_base}
use Rattle.nz_frame.proofs.constraining.append_swept.Goals as goal

pub returns-in-Err-clause-cause : goal.returns-in-Err-clause-cause
returns-in-Err-clause-cause g c = λ e. finding_base refl (c.in-Err.ensures.cause e)

pub returns-in-Err-lattice_constraints-clause-cause : goal.returns-in-Err-lattice_constraints-clause-cause
returns-in-Err-lattice_constraints-clause-cause g c = λ e.
    constraining_base refl c.in-Ok.ensures.steps
    (subst (λ (n : ℕ). SomeNumberLarge g.T.Scalar.HALF (IsConstraintNumber n c.in-Ok.base.vectors)) c.in-Ok.ensures.width (c.in-Err-lattice_constraints.ensures.forms e))
