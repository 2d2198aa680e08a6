use Rattle.std.proofs.Common.{◌≡◌, ◌+◌, ◌≤◌, ℕ, length}
use Rattle.std.specs.Prelude.{slice_index}
use Rattle.nz_dual.specs.PairSums.{IsWith, AddsSums}
use Rattle.nz_dual.specs.Closures.{IsSettled}
use Rattle.nz_dual.proofs.sums.add_sums_with.Given as goal

abbrev pub invariant-places : goal.invariant-places
invariant-places g l = record {
  up_same : l.up ≡ l.fn.up;
  down_same : l.down ≡ l.fn.down;
  inside : l.end ≤ length l.fn.down.degrees;
  own : (k : ℕ) → l.end ≡ k + 1 → slice_index l.fn.down.degrees k ≡ slice_index l.fn.down.classes l.class;
  sums : AddsSums (IsSettled l.rows l.fn.up l.fn.down) l.fn.up.rising l.fn.down.rising (λ i k. (l.end ≤ k) × IsWith l.first l.fn.down.degrees (slice_index l.fn.down.classes l.class) i k) l.fn.sums l.sums;
}

abbrev pub decreases-places : goal.decreases-places
decreases-places g l = l.end
