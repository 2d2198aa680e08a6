use Rattle.std.proofs.Common.{◌≡◌, length, map, take, vec_len}
use Rattle.std.specs.Prelude.{vec_capacity}
use Rattle.nz_system.proofs.narrowing.narrow_row.Given as goal

abbrev pub invariant-loop-place : goal.invariant-loop-place
invariant-loop-place g l = record {
  reached : vec_len l.entries ≡ l.place;
  room : vec_capacity l.entries ≡ length l.row;
  values : map g.T.Scalar.integer l.entries.items ≡ take l.place l.row;
}
