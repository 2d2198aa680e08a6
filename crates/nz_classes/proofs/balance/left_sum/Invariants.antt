use Rattle.std.proofs.Common.{◌≡◌, map, take}
use Rattle.nz_classes.specs.Sums.{sum_of}
use Rattle.nz_classes.proofs.balance.left_sum.Given as goal

abbrev pub invariant-loop-term : goal.invariant-loop-term
invariant-loop-term g l = g.T.Scalar.integer l.sum ≡ sum_of (map g.T.Scalar.integer (take l.term-index l.terms))
