use Rattle.std.proofs.Common.{◌≡◌, length, map, take, vec_len}
use Rattle.std.specs.Prelude.{vec_capacity}
use Rattle.nz_linear.specs.Coordinates.{in_coordinates}
use Rattle.nz_rays.proofs.cutting.values_at.Given as goal

abbrev pub invariant-loop-place : goal.invariant-loop-place
invariant-loop-place g l = (vec_len l.values ≡ l.place) × (vec_capacity l.values ≡ length l.rays) × (map g.T.Scalar.integer l.values.items ≡ in_coordinates (take l.place l.rays) l.form)
