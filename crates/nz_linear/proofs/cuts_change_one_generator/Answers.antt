use Rattle.nz_linear.proofs.GroupCuts.{cleared_group, equation_cut, congruence_cut}
use Rattle.nz_linear.proofs.DualGroups.{dual_cleared}
use Rattle.nz_linear.proofs.cuts_change_one_generator.Goals as goal

pub returns-clause-clear : goal.returns-clause-clear
returns-clause-clear c = cleared_group

pub returns-clause-equation : goal.returns-clause-equation
returns-clause-equation c = equation_cut

pub returns-clause-congruence : goal.returns-clause-congruence
returns-clause-congruence c = congruence_cut

pub returns-clause-dual : goal.returns-clause-dual
returns-clause-dual c = dual_cleared
