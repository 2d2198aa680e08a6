use Rattle.std.proofs.Common.{length, refl}
use Rattle.nz_linear.proofs.Division.{gcd_of, unit_value, primitive_by_unit, primitive_of, primitive_of_unique}
use Rattle.nz_linear.proofs.primitive_vectors_are_unique.Goals as goal

pub returns-clause-divisor : goal.returns-clause-divisor
returns-clause-divisor c = λ xs. let r = gcd_of xs in (r.g, r.is)

pub returns-clause-unit : goal.returns-clause-unit
returns-clause-unit c = λ x. ((λ p. unit_value x p), (λ u. primitive_by_unit x u))

pub returns-clause-exist : goal.returns-clause-exist
returns-clause-exist c = λ x n. let r = primitive_of x n in (r.y, r.is)

pub returns-clause-unique : goal.returns-clause-unique
returns-clause-unique c = λ x y z i j. primitive_of_unique (length x) x y z refl i j
