use Rattle.std.proofs.Common.{◌≡◌, vec_len}
use Rattle.std.specs.Prelude.{vec_capacity}
use Rattle.nz_tests_engines.proofs.sweep_tests.unit.Given as goal

abbrev pub invariant-loop-index : goal.invariant-loop-index
invariant-loop-index g l = (vec_len l.values ≡ l.index) × (vec_capacity l.values ≡ l.rank)
