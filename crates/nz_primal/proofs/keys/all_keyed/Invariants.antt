use Rattle.std.proofs.Common.{◌≡◌, take, map}
use Rattle.nz_primal.specs.Parts.{keyed}
use Rattle.nz_primal.proofs.keys.all_keyed.Given as goal

abbrev pub invariant-loop-place : goal.invariant-loop-place
invariant-loop-place g l = l.keys ≡ take l.place (map (keyed l.order) l.vectors)
