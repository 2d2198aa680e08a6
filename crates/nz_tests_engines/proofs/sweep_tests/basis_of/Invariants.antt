use Rattle.std.proofs.Common.{◌≡◌}
use Rattle.nz_tests_engines.proofs.sweep_tests.basis_of.Given as goal

abbrev pub invariant-loop-place : goal.invariant-loop-place
invariant-loop-place g l = l.basis.width ≡ l.width
