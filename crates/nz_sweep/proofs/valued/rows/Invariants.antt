use Rattle.std.proofs.Common.{◌≡◌}
use Rattle.nz_sweep.specs.Clearing.{vectors_of}
use Rattle.nz_sweep.proofs.valued.rows.Given as goal

abbrev pub invariant-loop-valued : goal.invariant-loop-valued
invariant-loop-valued g l = l.rows.items ≡ vectors_of l.yielded
