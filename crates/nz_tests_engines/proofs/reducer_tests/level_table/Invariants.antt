use Rattle.std.proofs.Common.{◌≡◌}
use Rattle.nz_tests_engines.proofs.reducer_tests.level_table.Given as goal

abbrev pub invariant-loop-first : goal.invariant-loop-first
invariant-loop-first g l = l.table.columns ≡ 2
