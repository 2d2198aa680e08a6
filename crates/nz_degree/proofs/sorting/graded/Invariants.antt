use Rattle.std.proofs.Common.{take}
use Rattle.nz_spec.specs.Order.{degree}
use Rattle.nz_degree.specs.Ranks.{AreRanked}
use Rattle.nz_degree.proofs.sorting.graded.Given as goal

abbrev pub invariant-loop-place : goal.invariant-loop-place
invariant-loop-place g l = AreRanked g.T.Scalar.integer (degree l.grading) (take l.place l.list) l.ranked.items
