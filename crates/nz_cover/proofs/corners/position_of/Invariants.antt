use Rattle.std.proofs.Common.{take, ◌<◌}
use Rattle.std.specs.List.{AllByRecursion as Each}
use Rattle.nz_cover.proofs.corners.position_of.Given as goal

abbrev pub invariant-loop-position : goal.invariant-loop-position
invariant-loop-position g l = Each (λ u. u.place < l.place) (take l.position l.corners)
