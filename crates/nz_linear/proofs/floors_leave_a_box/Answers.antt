use Rattle.nz_linear.proofs.Division.{floor_of, is_floor, floor_unique}
use Rattle.nz_linear.proofs.Floors.{floors_in_span_box}
use Rattle.nz_linear.proofs.floors_leave_a_box.Goals as goal

pub returns-clause-exist : goal.returns-clause-exist
returns-clause-exist c = λ k x p. let f = floor_of x k p in (f.quotient, is_floor k x f.quotient f.rest f.same f.low f.high)

pub returns-clause-unique : goal.returns-clause-unique
returns-clause-unique c = floor_unique

pub returns-clause-rest : goal.returns-clause-rest
returns-clause-rest c = floors_in_span_box
