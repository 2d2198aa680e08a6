use Rattle.std.proofs.Common.{◌≡◌, length, take, vec_len}
use Rattle.std.specs.Prelude.{vec_capacity}
use Rattle.nz_sweep.proofs.coordinates.copies.Given as goal

abbrev pub invariant-loop-place : goal.invariant-loop-place
invariant-loop-place g l = (vec_len l.copies ≡ l.place) × (vec_capacity l.copies ≡ length l.list) × (l.copies.items ≡ take l.place l.list)
