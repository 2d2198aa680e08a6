use Rattle.std.proofs.Common.{◌≡◌, [], take}
use Rattle.std.specs.Prelude.{slice_index, Contains}
use Rattle.nz_dual.specs.PairSums.{HaveSum, AddsSums}
use Rattle.nz_dual.specs.Closures.{IsSettled}
use Rattle.nz_dual.proofs.sums.sums_of.Given as goal

abbrev pub invariant-loop-class : goal.invariant-loop-class
invariant-loop-class g l = record {
  up_same : l.up ≡ l.fn.up;
  down_same : l.down ≡ l.fn.down;
  sums : AddsSums (IsSettled l.rows l.fn.up l.fn.down) l.fn.up.rising l.fn.down.rising (λ i k. Contains (take l.class l.fn.up.classes) (slice_index l.fn.up.degrees i) × HaveSum l.fn.up.degrees l.fn.down.degrees l.wanted i k) [] l.sums;
}
