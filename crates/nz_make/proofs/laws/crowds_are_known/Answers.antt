use Rattle.nz_make.proofs.DualCrowds.{dual_above, dual_below}
use Rattle.nz_make.proofs.PrimalCrowds.{primal_above, primal_below}
use Rattle.nz_make.proofs.laws.crowds_are_known.Goals as goal

pub returns-clause-primal : goal.returns-clause-primal
returns-clause-primal c = λ n l m. (primal_above n l m, primal_below n l m)

pub returns-clause-dual : goal.returns-clause-dual
returns-clause-dual c = λ n l m. (dual_above n l m, dual_below n l m)
