use Rattle.std.proofs.Common.{◌≢◌, take}
use Rattle.std.specs.List.{AllByRecursion as Each}
use Rattle.nz_cover.proofs.corners.across.Given as goal

abbrev pub invariant-loop-j : goal.invariant-loop-j
invariant-loop-j g l = Each (λ u. u.form ≢ l.facet) (take l.j l.cell)
