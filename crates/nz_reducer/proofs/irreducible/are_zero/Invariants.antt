use Rattle.std.proofs.Common.{map, take}
use Rattle.nz_spec.specs.Vectors.{IsZero}
use Rattle.nz_reducer.proofs.irreducible.are_zero.Given as goal

abbrev pub invariant-loop-entry : goal.invariant-loop-entry
invariant-loop-entry g l = IsZero (take l.entry-index (map g.T.Scalar.integer l.entries))
