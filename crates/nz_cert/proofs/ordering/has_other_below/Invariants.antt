use Rattle.std.proofs.Common.{◌≢◌, ◌<◌, ℕ, [], slice_index_or}
use Rattle.nz_order.specs.Boxes.{IsBelow}
use Rattle.nz_cert.proofs.ordering.has_other_below.Given as goal

abbrev pub invariant-loop-other : goal.invariant-loop-other
invariant-loop-other g l = (k : ℕ) → k < l.other → k ≢ l.place → ¬ IsBelow (slice_index_or l.table k []) (slice_index_or l.table l.place [])
