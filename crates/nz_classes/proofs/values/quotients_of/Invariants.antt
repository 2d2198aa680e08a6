use Rattle.std.proofs.Common.{◌≡◌, ℕ, ◌<◌, [], length, map, get_or, vec_len}
use Rattle.std.specs.Prelude.{vec_capacity}
use Rattle.nz_spec.specs.Vectors.{entry}
use Rattle.nz_scalar.specs.Division.{IsFloorQuotient}
use Rattle.nz_classes.proofs.values.quotients_of.Given as goal

abbrev pub invariant-loop-place : goal.invariant-loop-place
invariant-loop-place g l = record {
  reached : vec_len l.floors ≡ l.place;
  room : vec_capacity l.floors ≡ length l.forms;
  each : (i : ℕ) → i < l.place → IsFloorQuotient (entry (get_or l.forms i []) l.column) (entry l.divisors i) (entry (map g.T.Scalar.integer l.floors.items) i);
}
