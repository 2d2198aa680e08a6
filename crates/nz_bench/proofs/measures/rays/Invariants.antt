use Rattle.std.proofs.Common.{◌≡◌}
use Rattle.nz_bench.proofs.measures.rays.Given as goal

abbrev pub invariant-loop-place : goal.invariant-loop-place
invariant-loop-place l = l.double.width ≡ l.width
