use Rattle.std.proofs.Common.{◌≡◌, ◌<◌, ◌≤◌, ℕ, length, vec_len}
use Rattle.std.specs.Prelude.{vec_capacity}
use Rattle.nz_sweep.specs.Duals.{coordinate_at}
use Rattle.nz_sweep.specs.Bottom.{IsDualAt}
use Rattle.nz_sweep.proofs.bottom.dual_coordinates.Given as goal

abbrev pub invariant-loop-place : goal.invariant-loop-place
invariant-loop-place g l = (vec_len l.list ≡ l.place) × (vec_capacity l.list ≡ length l.base) × (length l.list.items ≡ l.place) × (l.place ≤ length l.base) × ((i : ℕ) → i < l.place → IsDualAt l.width l.columns l.base i (coordinate_at l.list.items i))
