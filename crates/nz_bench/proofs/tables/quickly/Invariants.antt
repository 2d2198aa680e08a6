use Rattle.std.proofs.Common.{◌≡◌}
use Rattle.nz_bench.proofs.tables.quickly.Given as goal

abbrev pub invariant-loop-place : goal.invariant-loop-place
invariant-loop-place l = l.table.columns ≡ l.width
