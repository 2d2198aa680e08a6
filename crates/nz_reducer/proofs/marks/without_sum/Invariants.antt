use Rattle.std.proofs.Common.{◌≡◌, take}
use Rattle.std.specs.Prelude.{None}
use Rattle.std.specs.List.{AllByRecursion as Each}
use Rattle.nz_reducer.proofs.marks.without_sum.Given as goal

abbrev pub invariant-loop-index : goal.invariant-loop-index
invariant-loop-index g l = Each (λ m. m.sum ≡ None) (take l.index l.marks)
