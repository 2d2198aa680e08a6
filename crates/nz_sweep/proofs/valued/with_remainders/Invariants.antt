use Rattle.std.proofs.Common.{◌≡◌, take, length, vec_len}
use Rattle.std.specs.Prelude.{vec_capacity}
use Rattle.nz_sweep.specs.Cuts.{AreValued, IsRemainderAt}
use Rattle.nz_sweep.proofs.valued.with_remainders.Given as goal

abbrev pub invariant-loop-place : goal.invariant-loop-place
invariant-loop-place g l = (vec_len l.list ≡ l.place) × (vec_capacity l.list ≡ length l.base) × AreValued (IsRemainderAt l.form (g.T.Scalar.integer l.modulus)) (take l.place l.base) l.list.items
