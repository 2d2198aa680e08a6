use Rattle.std.proofs.Common.{◌≡◌, ◌++◌, map, take}
use Rattle.nz_classes.specs.Steps.{products}
use Rattle.nz_classes.proofs.neighbours.push_products.Given as goal

abbrev pub invariant-loop-place : goal.invariant-loop-place
invariant-loop-place g l = map g.T.Scalar.integer l.terms.items ≡ map g.T.Scalar.integer l.initial.terms.items ++ take l.place (products l.factors l.sides l.column)
