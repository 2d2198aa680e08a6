use Rattle.std.proofs.Common.{◌≡◌, length, map, take, vec_len}
use Rattle.std.specs.Prelude.{vec_capacity}
use Rattle.nz_spec.specs.Vectors.{values_at}
use Rattle.nz_vec.proofs.rows.Rows.values_at.Given as goal

abbrev pub invariant-loop-place : goal.invariant-loop-place
invariant-loop-place g l = record {
  reached : vec_len l.values ≡ l.place;
  room : vec_capacity l.values ≡ length l.self;
  values : map g.T.Scalar.integer l.values.items ≡ take l.place (values_at l.self l.x);
}
