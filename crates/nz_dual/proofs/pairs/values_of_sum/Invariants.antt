use Rattle.std.proofs.Common.{◌≡◌, ◌+◌, map, take, vec_len}
use Rattle.std.specs.Prelude.{vec_capacity}
use Rattle.nz_spec.specs.Vectors.{plus}
use Rattle.nz_dual.proofs.pairs.values_of_sum.Given as goal

abbrev pub invariant-loop-place : goal.invariant-loop-place
invariant-loop-place g l = record {
  reached : vec_len l.values ≡ l.place;
  room : vec_capacity l.values ≡ l.count + 1;
  values : map g.T.Scalar.integer l.values.items ≡ take l.place (plus l.own l.other);
}
