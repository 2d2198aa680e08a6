use Rattle.std.proofs.Common.{refl}
use Rattle.nz_vec.specs.Conditions.{condition_of}
use Rattle.nz_frame.proofs.LatticeLemmas.{congruence_cut}
use Rattle.nz_frame.proofs.CutLemmas.{congruence_sweep, congruence_refused, pass_zero, pass_other}
use Rattle.nz_frame.proofs.lattices.with_congruence.Goals as goal

pub returns-in-Ok-clause-cut : goal.returns-in-Ok-clause-cut
returns-in-Ok-clause-cut g c = congruence_cut (condition_of g.T.Scalar.integer) c.args.constraint.now _ c.in-Multiple.form (g.T.Scalar.integer c.in-Multiple.modulus) _ _ _ c.in-Multiple.is refl c.in-Ok.ensures.cut

pub returns-in-Ok-clause-sweeps : goal.returns-in-Ok-clause-sweeps
returns-in-Ok-clause-sweeps g c = congruence_sweep (condition_of g.T.Scalar.integer) c.args.constraint.now _ c.in-Multiple.form (g.T.Scalar.integer c.in-Multiple.modulus) _ _ c.in-Multiple.is refl c.in-Ok.ensures.state

pub returns-in-Err-clause-cause : goal.returns-in-Err-clause-cause
returns-in-Err-clause-cause g c = λ e. congruence_refused (condition_of g.T.Scalar.integer) c.args.constraint.now _ c.in-Multiple.form (g.T.Scalar.integer c.in-Multiple.modulus) g.T.Scalar.HALF c.args.base c.in-Multiple.is refl (c.in-Err.ensures.cause e)

pub returns-in-Zero-clause-sweeps : goal.returns-in-Zero-clause-sweeps
returns-in-Zero-clause-sweeps g c = pass_zero (condition_of g.T.Scalar.integer) c.args.constraint.now _ _ c.args.base c.in-Zero.is refl

pub returns-in-NotNegative-clause-sweeps : goal.returns-in-NotNegative-clause-sweeps
returns-in-NotNegative-clause-sweeps g c = pass_other (condition_of g.T.Scalar.integer) c.args.constraint.now _ _ c.args.base c.in-NotNegative.is refl
