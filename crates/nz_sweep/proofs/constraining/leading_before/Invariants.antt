use Rattle.std.proofs.Common.{◌<◌, ℕ}
use Rattle.nz_sweep.specs.Bottom.{column_at}
use Rattle.nz_sweep.proofs.constraining.leading_before.Given as goal

abbrev pub invariant-loop-place : goal.invariant-loop-place
invariant-loop-place l = (i : ℕ) → i < l.place → column_at l.columns i < l.column
