use Rattle.std.proofs.Common.{◌≡◌, ℕ, ◌<◌, length, map, vec_len, ◌+ℤ◌}
use Rattle.std.specs.Prelude.{vec_capacity}
use Rattle.nz_spec.specs.Vectors.{entry}
use Rattle.nz_classes.specs.Steps.{IsCarry}
use Rattle.nz_classes.proofs.neighbours.carries.Given as goal

abbrev pub invariant-loop-place : goal.invariant-loop-place
invariant-loop-place g l = record {
  reached : vec_len l.carries ≡ l.place;
  room : vec_capacity l.carries ≡ length l.values;
  each : (i : ℕ) → i < l.place → IsCarry (entry l.values i +ℤ entry l.more i) (entry l.divisors i) (entry (map g.T.Scalar.integer l.carries.items) i);
}
