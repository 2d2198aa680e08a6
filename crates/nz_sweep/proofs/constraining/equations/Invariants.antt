use Rattle.std.proofs.Common.{◌≤◌}
use Rattle.nz_sweep.specs.GroupConstraints.{AreEquationsBefore}
use Rattle.nz_sweep.proofs.constraining.equations.Given as goal

abbrev pub invariant-loop-column : goal.invariant-loop-column
invariant-loop-column g l = (l.column ≤ l.width) × AreEquationsBefore l.width l.columns l.base l.column l.list
