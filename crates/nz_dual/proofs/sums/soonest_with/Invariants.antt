use Rattle.std.proofs.Common.{◌+◌, ℕ, take}
use Rattle.std.specs.List.{AllByRecursion as Each}
use Rattle.nz_dual.specs.PairSums.{IsAhead, IsNotSooner}
use Rattle.nz_dual.proofs.sums.soonest_with.Given as goal

abbrev pub invariant-loop-place : goal.invariant-loop-place
invariant-loop-place l = record {
  ahead : IsAhead l.last l.fn.best → IsAhead l.last l.best;
  seen : Each (λ d. IsNotSooner l.last l.best (l.degree + d)) (take l.place l.others);
  earlier : (d : ℕ) → IsNotSooner l.last l.fn.best d → IsNotSooner l.last l.best d;
}
