use Rattle.std.proofs.Common.{◌≡◌, ◌≢◌, ℕ, ◌<◌, [], length, get_or}
use Rattle.nz_spec.specs.Order.{IsListOf}
use Rattle.nz_rays.proofs.double.other_places.Given as goal

abbrev pub invariant-loop-place : goal.invariant-loop-place
invariant-loop-place l = (length l.lists ≡ l.place) × ((i : ℕ) → i < l.place → IsListOf ◌<◌ (λ k. (k < l.count) × (k ≢ i)) (get_or l.lists i []))
