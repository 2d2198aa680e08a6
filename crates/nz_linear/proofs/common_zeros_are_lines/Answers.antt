use Rattle.nz_linear.specs.Cones.{IsInRows}
use Rattle.nz_linear.proofs.Pointed.{line_of_common_zero, pointed_of_dual, positive_of_pointed}
use Rattle.nz_linear.proofs.common_zeros_are_lines.Goals as goal

pub returns-clause-line : goal.returns-clause-line
returns-clause-line c = line_of_common_zero

pub returns-clause-pointed : goal.returns-clause-pointed
returns-clause-pointed c = pointed_of_dual

pub returns-clause-positive : goal.returns-clause-positive
returns-clause-positive c = λ w rows pt. positive_of_pointed w rows (IsInRows w rows) pt (λ x i. i)
