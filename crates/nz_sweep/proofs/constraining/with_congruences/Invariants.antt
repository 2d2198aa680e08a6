use Rattle.std.proofs.Common.{◌≡◌, ◌++◌, ◌<ℤ◌, List, map, pos}
use Rattle.std.specs.List.{AllByRecursion as Each}
use Rattle.nz_spec.specs.Systems.{Congruence}
use Rattle.nz_spec.specs.Constraints.{constraint_of}
use Rattle.nz_sweep.specs.Duals.{Coordinate}
use Rattle.nz_sweep.specs.GroupConstraints.{AreAboveOne}
use Rattle.nz_sweep.proofs.constraining.with_congruences.Given as goal

abbrev pub invariant-loop-coordinate : goal.invariant-loop-coordinate
invariant-loop-coordinate g l = Each (λ (k : Coordinate). pos 0 <ℤ k.divisor) l.yielded → (congruences : List Congruence) × AreAboveOne l.yielded congruences × (l.list ≡ l.fn.list ++ map constraint_of congruences)
