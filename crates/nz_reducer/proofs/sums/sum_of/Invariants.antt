use Rattle.std.proofs.Common.{◌+◌, ◌-◌, length}
use Rattle.nz_reducer.proofs.SumLemmas.{IsSumming}
use Rattle.nz_reducer.proofs.sums.sum_of.Given as goal

abbrev pub invariant-terms : goal.invariant-terms
invariant-terms g l = IsSumming g.T.Scalar.fits l.values (g.T.Scalar.integer l.sum) l.raised l.lowered

abbrev pub decreases-terms : goal.decreases-terms
decreases-terms g l = (length l.values - l.raised) + (length l.values - l.lowered)
