use Rattle.std.specs.List.{AllByRecursion as Each}
use Rattle.nz_degree.specs.Levels.{HasEntry}
use Rattle.nz_tests_engines.proofs.module_tests.rows_of.Given as goal

abbrev pub invariant-loop-entry : goal.invariant-loop-entry
invariant-loop-entry g l = Each HasEntry l.rows
