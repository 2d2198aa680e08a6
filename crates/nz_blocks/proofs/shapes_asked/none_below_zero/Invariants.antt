use Rattle.std.proofs.Common.{pos, ◌≤ℤ◌, take}
use Rattle.std.specs.List.{AllByRecursion as Each}
use Rattle.nz_blocks.proofs.shapes_asked.none_below_zero.Given as goal

abbrev pub invariant-loop-index : goal.invariant-loop-index
invariant-loop-index l = Each (λ c. pos 0 ≤ℤ c) (take l.index l.counts)
