use Rattle.std.proofs.Common.{◌≡◌, ◌+◌, ◌+ℤ◌, length, map}
use Rattle.nz_sweep.specs.Terms.{total, AreTerms}
use Rattle.nz_sweep.proofs.terms.balanced.Given as goal

abbrev pub invariant-terms : goal.invariant-terms
invariant-terms g l = AreTerms g.T.Scalar.fits (map g.T.Scalar.integer l.above.items) (map g.T.Scalar.integer l.below.items) × (g.T.Scalar.integer l.sum +ℤ (total (map g.T.Scalar.integer l.above.items) +ℤ total (map g.T.Scalar.integer l.below.items)) ≡ total (map g.T.Scalar.integer l.fn.above.items) +ℤ total (map g.T.Scalar.integer l.fn.below.items)) × g.T.Scalar.fits (g.T.Scalar.integer l.sum)

abbrev pub decreases-terms : goal.decreases-terms
decreases-terms g l = length (map g.T.Scalar.integer l.above.items) + length (map g.T.Scalar.integer l.below.items)
