use Rattle.std.proofs.Common.{◌≡◌, ◌+◌, ◌≤◌, ℕ, length}
use Rattle.std.specs.Prelude.{slice_index}
use Rattle.nz_dual.specs.PairSums.{HaveDegrees, AddsSums}
use Rattle.nz_dual.specs.Closures.{IsSettled}
use Rattle.nz_dual.proofs.sums.add_class_sums.Given as goal

abbrev pub invariant-places : goal.invariant-places
invariant-places g l = record {
  up_same : l.up ≡ l.fn.up;
  down_same : l.down ≡ l.fn.down;
  inside : l.end ≤ length l.fn.up.degrees;
  own : (k : ℕ) → l.end ≡ k + 1 → slice_index l.fn.up.degrees k ≡ slice_index l.fn.up.classes l.first;
  sums : AddsSums (IsSettled l.rows l.fn.up l.fn.down) l.fn.up.rising l.fn.down.rising (λ i k. (l.end ≤ i) × HaveDegrees l.fn.up.degrees (slice_index l.fn.up.classes l.first) l.fn.down.degrees (slice_index l.fn.down.classes l.second) i k) l.fn.sums l.sums;
}

abbrev pub decreases-places : goal.decreases-places
decreases-places g l = l.end
