use Rattle.std.proofs.Common.{map, take}
use Rattle.nz_vec.specs.Primitives.{HasDivisorsOf}
use Rattle.nz_vec.proofs.entries.content.Given as goal

abbrev pub invariant-loop-entry : goal.invariant-loop-entry
invariant-loop-entry g l = HasDivisorsOf (take l.entry-index (map g.T.Scalar.integer l.entries)) (g.T.Scalar.integer l.held)
