use Rattle.std.proofs.Common.{◌≡◌, ◌<◌, length}
use Rattle.std.specs.List.{AllByRecursion as Each}
use Rattle.nz_reducer.proofs.levels.levels_for.Given as goal

abbrev pub invariant-loop-bit : goal.invariant-loop-bit
invariant-loop-bit g l = (length l.levels.items ≡ l.bit) × Each (λ x. x.column < l.width) l.levels.items
