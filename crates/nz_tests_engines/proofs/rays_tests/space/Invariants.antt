use Rattle.std.proofs.Common.{◌≡◌}
use Rattle.nz_tests_engines.proofs.rays_tests.space.Given as goal

abbrev pub invariant-loop-step : goal.invariant-loop-step
invariant-loop-step g l = l.double.width ≡ 3
