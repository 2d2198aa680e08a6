use Rattle.std.proofs.Common.{◌+◌, vec_len}
use Rattle.nz_classes.proofs.SumLemmas.{IsMerging}
use Rattle.nz_classes.proofs.balance.merged.Given as goal

abbrev pub invariant-terms : goal.invariant-terms
invariant-terms g l = IsMerging g.T.Scalar.integer g.T.Scalar.fits g.T.Scalar.HALF g.met.T.Scalar.room l.fn.above.items l.fn.below.items (g.T.Scalar.integer l.sum) l.above.items l.below.items

abbrev pub decreases-terms : goal.decreases-terms
decreases-terms g l = vec_len l.above + vec_len l.below
