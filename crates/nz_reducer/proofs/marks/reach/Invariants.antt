use Rattle.std.proofs.Common.{◌-◌}
use Rattle.nz_reducer.proofs.MarkLemmas.{IsReachBetween}
use Rattle.nz_reducer.proofs.marks.reach.Given as goal

abbrev pub invariant-loop-low : goal.invariant-loop-low
invariant-loop-low g l = IsReachBetween g.T.Scalar.integer (λ m. m.sum) l.marks l.sum l.low l.high

abbrev pub decreases-loop-low : goal.decreases-loop-low
decreases-loop-low g l = l.high - l.low
