use Rattle.std.proofs.Common.{◌≡◌, length, map, take, vec_len}
use Rattle.std.specs.Prelude.{vec_capacity}
use Rattle.std.specs.List.{AllZip}
use Rattle.nz_sweep.specs.Duals.{IsWholeAt}
use Rattle.nz_sweep.proofs.inside.whole_coordinates.Given as goal

abbrev pub invariant-loop-place : goal.invariant-loop-place
invariant-loop-place g l = (vec_len l.entries ≡ l.place) × (vec_capacity l.entries ≡ length l.coordinates) × AllZip (IsWholeAt l.x) (take l.place l.coordinates) (map g.T.Scalar.integer l.entries.items)
