use Rattle.std.proofs.Common.{◌≡◌, ◌∷◌, take}
use Rattle.nz_spec.specs.Vectors.{entry}
use Rattle.nz_classes.specs.Steps.{products}
use Rattle.nz_classes.specs.Sums.{sum_of}
use Rattle.nz_classes.proofs.neighbours.left_entry.Given as goal

abbrev pub invariant-loop-place : goal.invariant-loop-place
invariant-loop-place g l = g.T.Scalar.integer l.sum ≡ sum_of (entry l.first l.column ∷ entry l.second l.column ∷ take l.place (products l.factors l.sides l.column))
