use Rattle.std.proofs.Common.{◌≡◌}
use Rattle.nz_tests_engines.proofs.reducer_tests.shared_table.Given as goal

abbrev pub invariant-loop-entries : goal.invariant-loop-entries
invariant-loop-entries g l = l.table.columns ≡ 2
