use Rattle.nz_classes.proofs.SumLemmas.{IsSplitSoFar}
use Rattle.nz_classes.proofs.balance.split.Given as goal

abbrev pub invariant-loop-term : goal.invariant-loop-term
invariant-loop-term g l = IsSplitSoFar g.T.Scalar.integer l.terms l.term-index l.above.items l.below.items
