use Rattle.std.proofs.Common.{◌≡◌, ℕ, ◌<◌, pos}
use Rattle.std.specs.Prelude.{MatchOption}
use Rattle.nz_spec.specs.Vectors.{entry}
use Rattle.nz_sweep.specs.Clearing.{values_of, IsPivot}
use Rattle.nz_sweep.proofs.pivots.least.Given as goal

abbrev pub invariant-loop-place : goal.invariant-loop-place
invariant-loop-place g l = MatchOption l.least ((k : ℕ) → k < l.place → entry (values_of l.list) k ≡ pos 0) (λ p. IsPivot (values_of l.list) l.place p)
