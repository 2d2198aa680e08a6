use Rattle.std.proofs.Common.{◌≡◌, ℕ, ◌<◌}
use Rattle.nz_spec.specs.Vectors.{combination, entry}
use Rattle.nz_sweep.proofs.inside.is_combination.Given as goal

abbrev pub invariant-loop-place : goal.invariant-loop-place
invariant-loop-place g l = (k : ℕ) → k < l.place → entry (combination l.width l.factors l.base) k ≡ entry l.x k
