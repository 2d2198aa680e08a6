use Rattle.std.proofs.Common.{◌≡◌, length, map, take, vec_len}
use Rattle.std.specs.Prelude.{vec_capacity}
use Rattle.nz_linear.specs.DualPairs.{divisor}
use Rattle.nz_classes.specs.Walks.{paired}
use Rattle.nz_classes.proofs.values.divisors_of.Given as goal

abbrev pub invariant-loop-place : goal.invariant-loop-place
invariant-loop-place g l = record {
  reached : vec_len l.divisors ≡ l.place;
  room : vec_capacity l.divisors ≡ length l.sides;
  values : map g.T.Scalar.integer l.divisors.items ≡ take l.place (map divisor (paired l.forms l.sides));
}
