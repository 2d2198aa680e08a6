use Rattle.std.proofs.Common.{◌≡◌, take, map, drop}
use Rattle.nz_primal.proofs.keys.all_ends.Given as goal

abbrev pub invariant-loop-place : goal.invariant-loop-place
invariant-loop-place g l = l.rows ≡ take l.place (map (drop l.count) l.keys)
