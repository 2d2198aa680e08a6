use Rattle.std.proofs.Common.{subst, ℤ, FitsSigned, rules}
use Rattle.std.specs.Int.{w128}
use Rattle.std.proofs.lemmas.Int.{to_z-of_z}
use Rattle.nz_system.specs.Narrowing.{modulus, multiple_form}
use Rattle.nz_system.proofs.narrowing.narrow_multiple.Goals as goal

pub returns-in-None-clause-cause : goal.returns-in-None-clause-cause
returns-in-None-clause-cause g c = λ _.
    let fits : FitsSigned w128 c.args.modulus = search rules in
    modulus (subst (λ (z : ℤ). ¬ g.T.Scalar.fits z) (to_z-of_z w128 c.args.modulus fits) c.in-None.ensures)

pub returns-in-Err-clause-cause : goal.returns-in-Err-clause-cause
returns-in-Err-clause-cause g c = λ e. multiple_form (c.in-Err.ensures.cause e)
