use Rattle.std.proofs.Common.{◌<◌, get_or, pos, ◌<ℤ◌}
use Rattle.nz_spec.specs.Order.{IsListOf}
use Rattle.nz_rays.proofs.sharing.negative_places.Given as goal

abbrev pub invariant-loop-place : goal.invariant-loop-place
invariant-loop-place g l = IsListOf ◌<◌ (λ k. (k < l.place) × (get_or l.values k (pos 0) <ℤ pos 0)) l.places
