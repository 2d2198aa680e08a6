use Rattle.nz_degree.proofs.Firsts.{Finds}
use Rattle.nz_degree.proofs.checking.check.Given as goal

abbrev pub invariant-loop-place : goal.invariant-loop-place
invariant-loop-place g l = Finds l.grading l.list l.place l.found (g.T.Scalar.integer l.least)
