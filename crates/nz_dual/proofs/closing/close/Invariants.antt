use Rattle.std.proofs.Common.{◌≡◌, ◌-◌, ◌^◌}
use Rattle.nz_dual.specs.Closures.{IsPart, HandlesSums}
use Rattle.nz_dual.proofs.closing.close.Given as goal

abbrev pub invariant-degrees : goal.invariant-degrees
invariant-degrees g l = record {
  part : IsPart l.limit l.rows l.up l.down;
  up_last : l.up.last ≡ l.initial.up.last;
  down_last : l.down.last ≡ l.initial.down.last;
  sums : HandlesSums l.rows l.up.last l.down.last l.last l.up.elements l.down.elements;
}

abbrev pub decreases-degrees : goal.decreases-degrees
decreases-degrees g l = 2 ^ 128 - l.last
