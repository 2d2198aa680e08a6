use Rattle.nz_lift.proofs.PointLemmas.{IsUpTo}
use Rattle.nz_lift.proofs.points.lift.Given as goal

abbrev pub invariant-loop-place : goal.invariant-loop-place
invariant-loop-place g l = IsUpTo l.rank l.rows l.level l.limit l.place l.list
