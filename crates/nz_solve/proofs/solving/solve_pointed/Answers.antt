use Rattle.nz_solve.proofs.RangeLemmas.{outcome_refused}
use Rattle.nz_solve.proofs.solving.solve_pointed.Goals as goal

pub returns-in-Err-outcome-clause-outcome : goal.returns-in-Err-outcome-clause-outcome
returns-in-Err-outcome-clause-outcome g c = outcome_refused c.args.system.now.mode c.args.system.now.system g.T.Scalar.HALF c.args.limit c.args.told_before c.in-Ok.elements.told _ _ c.in-Ok.ensures.elements.0.positive c.in-Ok.ensures.elements.1 c.in-Ok.ensures.told c.in-Err-outcome.refusal c.with_told.result c.in-Err-outcome.ensures c.with_told.ensures
