use Rattle.nz_lift.proofs.FollowLemmas.{IsPart}
use Rattle.nz_lift.proofs.lifting.with_numbers.Given as goal

abbrev pub invariant-loop-place : goal.invariant-loop-place
invariant-loop-place g l = IsPart (g.T.Scalar.integer l.initial.next) (g.T.Scalar.integer l.high) l.point l.initial.list l.list l._place (g.T.Scalar.integer l.next)
