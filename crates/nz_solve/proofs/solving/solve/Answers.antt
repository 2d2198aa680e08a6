use Rattle.nz_solve.proofs.AgainLemmas.{again_all, again_refused, range_left}
use Rattle.nz_solve.proofs.solving.solve.Goals as goal

pub returns-in-Ok-solve_in-clause-outcome : goal.returns-in-Ok-solve_in-clause-outcome
returns-in-Ok-solve_in-clause-outcome g c =
    let s = c.args.system.now in (
      c.in-Ok-solve_in.ensures.outcome.0,
      again_all s.mode s.system c.requires.system c.args.limit c.in-Range.told _ _ (range_left s.mode s.system _ c.args.limit 0 _ _ c.in-Err.refusal c.in-Range.told c.in-Range.is c.in-Err.ensures.outcome) _ c.in-Ok-solve_in.ensures.outcome.1,
    )

pub returns-in-Err-solve_in-clause-outcome : goal.returns-in-Err-solve_in-clause-outcome
returns-in-Err-solve_in-clause-outcome g c =
    let s = c.args.system.now in
    again_refused s.mode s.system c.requires.system c.args.limit c.in-Range.told _ _ (range_left s.mode s.system _ c.args.limit 0 _ _ c.in-Err.refusal c.in-Range.told c.in-Range.is c.in-Err.ensures.outcome) _ c.in-Err-solve_in.refusal c.without_told.result c.in-Err-solve_in.ensures.outcome c.without_told.ensures
