use Rattle.std.proofs.Common.{◌≡◌, ℕ, ◌<◌, pos}
use Rattle.nz_spec.specs.Vectors.{entry}
use Rattle.nz_sweep.specs.Clearing.{values_of}
use Rattle.nz_sweep.proofs.pivots.are_zero.Given as goal

abbrev pub invariant-loop-place : goal.invariant-loop-place
invariant-loop-place g l = (k : ℕ) → k < l.place → entry (values_of l.list) k ≡ pos 0
