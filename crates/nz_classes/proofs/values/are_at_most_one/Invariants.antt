use Rattle.std.proofs.Common.{take, pos, ◌≤ℤ◌}
use Rattle.std.specs.List.{AllByRecursion as Each}
use Rattle.nz_classes.proofs.values.are_at_most_one.Given as goal

abbrev pub invariant-loop-place : goal.invariant-loop-place
invariant-loop-place g l = Each (λ d. d ≤ℤ pos 1) (take l.place l.divisors)
