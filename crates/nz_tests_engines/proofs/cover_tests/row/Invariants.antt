use Rattle.std.proofs.Common.{◌≡◌, length, vec_len}
use Rattle.std.specs.Prelude.{vec_capacity}
use Rattle.nz_tests_engines.proofs.cover_tests.row.Given as goal

abbrev pub invariant-loop-place : goal.invariant-loop-place
invariant-loop-place g l = (vec_len l.values ≡ l.place) × (vec_capacity l.values ≡ length l.entries)
