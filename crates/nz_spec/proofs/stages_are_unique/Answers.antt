use Rattle.nz_spec.specs.Stages.{AreDualStages, ArePrimalStages}
use Rattle.nz_spec.proofs.StageUnique.{AreTold-unique, AreDualStages-unique, ArePrimalStages-unique}
use Rattle.nz_spec.proofs.stages_are_unique.Goals as goal

pub returns-clause-dual : goal.returns-clause-dual
returns-clause-dual c = λ s is. AreTold-unique AreDualStages s (AreDualStages-unique s is)

pub returns-clause-primal : goal.returns-clause-primal
returns-clause-primal c = λ s. AreTold-unique ArePrimalStages s (ArePrimalStages-unique s)
