use Rattle.std.proofs.Common.{◌≡◌, ◌+ℤ◌, map, take}
use Rattle.nz_spec.specs.Vectors.{dot}
use Rattle.nz_sweep.specs.Terms.{total, AreTerms}
use Rattle.nz_sweep.proofs.terms.products.Given as goal

abbrev pub invariant-loop-place : goal.invariant-loop-place
invariant-loop-place g l = AreTerms g.T.Scalar.fits (map g.T.Scalar.integer l.terms.above.items) (map g.T.Scalar.integer l.terms.below.items) × (total (map g.T.Scalar.integer l.terms.above.items) +ℤ total (map g.T.Scalar.integer l.terms.below.items) ≡ dot (take l.place l.form) (take l.place l.x))
