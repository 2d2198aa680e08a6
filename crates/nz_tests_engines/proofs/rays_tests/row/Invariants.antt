use Rattle.std.proofs.Common.{◌≡◌, length, vec_len}
use Rattle.std.specs.Prelude.{vec_capacity}
use Rattle.nz_tests_engines.proofs.rays_tests.row.Given as goal

abbrev pub invariant-loop-entry : goal.invariant-loop-entry
invariant-loop-entry g l = (vec_len l.values ≡ l.entry-index) × (vec_capacity l.values ≡ length l.entries)
