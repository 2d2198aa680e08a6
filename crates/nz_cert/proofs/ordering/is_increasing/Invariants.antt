use Rattle.std.proofs.Common.{◌≤◌, ◌+◌, ◌-◌, ◌<◌, ℕ, length, get_or, []}
use Rattle.nz_spec.specs.Order.{IsLexBefore}
use Rattle.nz_cert.proofs.ordering.is_increasing.Given as goal

abbrev pub invariant-loop-place : goal.invariant-loop-place
invariant-loop-place g l = record {
  some : 1 ≤ l.place;
  before : (k : ℕ) → k + 1 < l.place → IsLexBefore (get_or l.list k []) (get_or l.list (k + 1) []);
}

abbrev pub decreases-loop-place : goal.decreases-loop-place
decreases-loop-place g l = length l.list - l.place
