use Rattle.std.proofs.Common.{take, pos}
use Rattle.nz_degree.specs.Ranks.{AreRanked}
use Rattle.nz_degree.proofs.sorting.ungraded.Given as goal

abbrev pub invariant-loop-place : goal.invariant-loop-place
invariant-loop-place g l = AreRanked g.T.Scalar.integer (λ _. pos 0) (take l.place l.list) l.ranked.items
