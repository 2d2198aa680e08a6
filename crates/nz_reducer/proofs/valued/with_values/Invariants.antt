use Rattle.std.proofs.Common.{◌≡◌, length, map, take, vec_len}
use Rattle.std.specs.Prelude.{vec_capacity}
use Rattle.nz_reducer.specs.Reducers.{AreValued}
use Rattle.nz_reducer.proofs.valued.with_values.Given as goal

abbrev pub invariant-loop-place : goal.invariant-loop-place
invariant-loop-place g l = record {
  reached : vec_len l.list ≡ l.place;
  room : vec_capacity l.list ≡ length l.candidates;
  valued : AreValued l.rows (take l.place l.candidates) l.list.items (λ c. map g.T.Scalar.integer c.entries.items) (λ c. map g.T.Scalar.integer c.values.items);
}
