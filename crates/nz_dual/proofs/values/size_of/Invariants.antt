use Rattle.std.proofs.Common.{◌≡◌, ◌<◌, ◌^◌, take}
use Rattle.nz_range.specs.Measures.{measure}
use Rattle.nz_dual.proofs.values.size_of.Given as goal

abbrev pub invariant-loop-place : goal.invariant-loop-place
invariant-loop-place g l = (l.sum ≡ measure (take l.place l.values)) × (l.sum < 2 ^ 127)
