use Rattle.nz_solve.proofs.ModesLaw.{modes_agree, solved_not_refused}
use Rattle.nz_solve.proofs.laws.modes_agree.Goals as goal

pub returns-clause-solved : goal.returns-clause-solved
returns-clause-solved c = solved_not_refused

pub returns-clause-modes : goal.returns-clause-modes
returns-clause-modes c = modes_agree
