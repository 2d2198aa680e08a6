use Rattle.std.proofs.Common.{refl}
use Rattle.nz_scalar.specs.Division.{HasGcd}
use Rattle.nz_vec.proofs.DivisorLemmas.{joint_zero, joint_start, joint_gcd, such_of_some}
use Rattle.nz_degree.proofs.denominators.joint_divisor.Goals as goal

pub returns-then-is_zero : goal.returns-then-is_zero
returns-then-is_zero g c = joint_zero _ _ (c.if-is_zero.ensures.0 refl)

pub returns-then-is_zero-2 : goal.returns-then-is_zero-2
returns-then-is_zero-2 g c = joint_start _ _ (c.if-is_zero-2.ensures.0 refl)

pub returns-else-same : goal.returns-else-same
returns-else-same g c = joint_gcd _ _ _ (such_of_some g.T.Scalar.integer g.T.Scalar.fits c.gcd.result c.unwrap.result (HasGcd _) c.unwrap.ensures c.gcd.ensures.value)
