use Rattle.nz_spec.proofs.PartsSums.{member_is_sum, rest_is_zero, rest_is_module}
use Rattle.nz_spec.proofs.members_are_sums.Goals as goal

pub returns-clause-sums : goal.returns-clause-sums
returns-clause-sums c = member_is_sum

pub returns-clause-none : goal.returns-clause-none
returns-clause-none c = rest_is_zero

pub returns-clause-modules : goal.returns-clause-modules
returns-clause-modules c = rest_is_module
