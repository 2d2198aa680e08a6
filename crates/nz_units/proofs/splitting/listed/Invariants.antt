use Rattle.std.proofs.Common.{◌≡◌, length, take, vec_len}
use Rattle.std.specs.Prelude.{vec_capacity}
use Rattle.nz_units.proofs.splitting.listed.Given as goal

abbrev pub invariant-loop-place : goal.invariant-loop-place
invariant-loop-place g l = (vec_len l.list ≡ l.place) × (vec_capacity l.list ≡ length l.rows) × (l.list.items ≡ take l.place l.rows)
