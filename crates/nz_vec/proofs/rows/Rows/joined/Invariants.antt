use Rattle.std.proofs.Common.{◌≡◌, ◌++◌, take}
use Rattle.nz_vec.proofs.rows.Rows.joined.Given as goal

abbrev pub invariant-loop-place : goal.invariant-loop-place
invariant-loop-place g l = l.list ≡ l.initial.list ++ take l.place l.others
