use Rattle.std.proofs.Common.{◌≡◌}
use Rattle.nz_pointed.proofs.elimination.rows_of.Given as goal

abbrev pub invariant-loop-row : goal.invariant-loop-row
invariant-loop-row g l = l.rows ≡ l.yielded
