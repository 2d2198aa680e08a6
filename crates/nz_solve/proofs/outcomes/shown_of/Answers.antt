use Rattle.std.proofs.Common.{subst, inr, IsTrue}
use Rattle.nz_pointed.specs.Pointed.{IsTooLarge}
use Rattle.nz_system.specs.Meaning.{SystemData}
use Rattle.nz_solve.proofs.outcomes.shown_of.Goals as goal

pub returns-in-Err-description_of-clause-cause : goal.returns-in-Err-description_of-clause-cause
returns-in-Err-description_of-clause-cause g c = λ e. inr (subst (λ (d : SystemData). IsTrue d.goals.hyperplanes × IsTooLarge g.T.Scalar.HALF d.system.width c.args.extreme.now) c.system.view_is (c.in-Err-description_of.ensures.cause e))
