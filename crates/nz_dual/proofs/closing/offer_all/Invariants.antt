use Rattle.std.proofs.Common.{take}
use Rattle.std.specs.List.{AllByRecursion as Each}
use Rattle.nz_dual.specs.Sides.{HasGrown, Handles}
use Rattle.nz_dual.proofs.closing.offer_all.Given as goal

abbrev pub invariant-loop-place : goal.invariant-loop-place
invariant-loop-place g l = record {
  up : HasGrown l.limit l.rows l.initial.up l.up;
  down : HasGrown l.limit l.rows l.initial.down l.down;
  up_handles : Each (Handles l.rows l.initial.up.last l.up.elements) (take l.place l.vectors);
  down_handles : Each (Handles l.rows l.initial.down.last l.down.elements) (take l.place l.vectors);
}
