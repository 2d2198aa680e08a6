use Rattle.std.proofs.Common.{◌≡◌, length, take, vec_len}
use Rattle.std.specs.Prelude.{vec_capacity}
use Rattle.std.specs.List.{AllZip}
use Rattle.nz_sweep.specs.Clearing.{IsReduced}
use Rattle.nz_sweep.proofs.clearing.reduced_all.Given as goal

abbrev pub invariant-loop-place : goal.invariant-loop-place
invariant-loop-place g l = (vec_len l.all ≡ l.place) × (vec_capacity l.all ≡ length l.others) × AllZip (IsReduced l.own) (take l.place l.others) l.all.items
