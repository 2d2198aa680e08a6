use Rattle.std.proofs.Common.{◌≡◌, take}
use Rattle.std.specs.Prelude.{slice_index, Contains}
use Rattle.nz_dual.specs.PairSums.{HaveSumFrom, AddsSums}
use Rattle.nz_dual.specs.Closures.{IsSettled}
use Rattle.nz_dual.proofs.sums.add_sums.Given as goal

abbrev pub invariant-loop-second : goal.invariant-loop-second
invariant-loop-second g l = record {
  up_same : l.up ≡ l.fn.up;
  down_same : l.down ≡ l.fn.down;
  sums : AddsSums (IsSettled l.rows l.fn.up l.fn.down) l.fn.up.rising l.fn.down.rising (λ i k. Contains (take l.second l.fn.down.classes) (slice_index l.fn.down.degrees k) × HaveSumFrom l.fn.up.degrees (slice_index l.fn.up.classes l.first) l.fn.down.degrees l.wanted i k) l.fn.sums l.sums;
}
