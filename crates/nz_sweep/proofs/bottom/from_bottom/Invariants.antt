use Rattle.std.proofs.Common.{◌≤◌}
use Rattle.nz_sweep.specs.Bottom.{IsFromBottom}
use Rattle.nz_sweep.proofs.bottom.from_bottom.Given as goal

abbrev pub invariant-vectors : goal.invariant-vectors
invariant-vectors g l = (l.first ≤ l.end) × IsFromBottom l.width l.columns l.base l.column (g.T.Scalar.integer l.fn.sign) l.first l.end l.form

abbrev pub decreases-vectors : goal.decreases-vectors
decreases-vectors g l = l.first
