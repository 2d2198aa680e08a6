use Rattle.std.proofs.Common.{◌≡◌, length, take, vec_len}
use Rattle.std.specs.Prelude.{vec_capacity}
use Rattle.std.specs.List.{AllZip}
use Rattle.nz_pointed.specs.Elimination.{IsCleared}
use Rattle.nz_pointed.proofs.clearing.cleared_all.Given as goal

abbrev pub invariant-loop-place : goal.invariant-loop-place
invariant-loop-place g l = (vec_len l.all ≡ l.place) × (vec_capacity l.all ≡ length l.rows) × AllZip (IsCleared l.form l.by) (take l.place l.rows) l.all.items
