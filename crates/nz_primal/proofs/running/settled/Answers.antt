use Rattle.std.proofs.Common.{ℕ, subst}
use Rattle.nz_primal.specs.Parts.{IsSecondCause, of_generators, of_second}
use Rattle.nz_primal.proofs.running.settled.Goals as goal

pub returns-in-Err-clause-cause : goal.returns-in-Err-clause-cause
returns-in-Err-clause-cause g c = λ e. of_generators (c.in-Err.ensures.cause e)

pub returns-in-Err-in_second-clause-cause : goal.returns-in-Err-in_second-clause-cause
returns-in-Err-in_second-clause-cause g c = λ e. of_second c.in-Ok.ensures.generators c.in-Ok.ensures.rays
    (subst (λ (n : ℕ). IsSecondCause g.T.Scalar.HALF g.T.Scalar.fits n c.args.rows.now c.in-Ok.extreme) c.len.ensures (c.in-Err-in_second.ensures.cause e))
