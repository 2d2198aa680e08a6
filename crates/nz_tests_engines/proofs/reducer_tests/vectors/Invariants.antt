use Rattle.std.specs.List.{AllByRecursion as Each}
use Rattle.nz_spec.specs.Vectors.{HasWidth}
use Rattle.nz_tests_engines.proofs.reducer_tests.vectors.Given as goal

abbrev pub invariant-loop-entries : goal.invariant-loop-entries
invariant-loop-entries g l = Each (HasWidth 2) l.rows
