use Rattle.std.proofs.Common.{◌≡◌, length, map, take, vec_len}
use Rattle.std.specs.Prelude.{vec_capacity}
use Rattle.nz_spec.specs.Vectors.{plus, minus, opposite, combination}
use Rattle.nz_classes.proofs.neighbours.moved.Given as goal

abbrev pub invariant-loop-column : goal.invariant-loop-column
invariant-loop-column g l = record {
  reached : vec_len l.entries ≡ l.column;
  room : vec_capacity l.entries ≡ length l.first;
  entries : map g.T.Scalar.integer l.entries.items ≡ take l.column (minus (plus l.first l.second) (combination (length l.first) (opposite l.factors) l.sides));
}
