use Rattle.std.proofs.Common.{take}
use Rattle.nz_dual.specs.PairSums.{IsNext}
use Rattle.nz_dual.proofs.sums.next_degree.Given as goal

abbrev pub invariant-loop-place : goal.invariant-loop-place
invariant-loop-place l = IsNext l.last (take l.place l.firsts) l.seconds l.best
