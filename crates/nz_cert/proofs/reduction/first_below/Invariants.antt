use Rattle.std.proofs.Common.{◌<◌, ℕ, [], slice_index_or}
use Rattle.nz_order.specs.Boxes.{IsBelow}
use Rattle.nz_cert.proofs.reduction.first_below.Given as goal

abbrev pub invariant-loop-place : goal.invariant-loop-place
invariant-loop-place g l = (k : ℕ) → k < l.place → ¬ IsBelow (slice_index_or l.table k []) l.values
