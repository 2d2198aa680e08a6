use Rattle.std.proofs.Common.{◌<◌, ℕ}
use Rattle.nz_cert.specs.Monoids.{HasOtherBelow}
use Rattle.nz_cert.proofs.ordering.is_apart.Given as goal

abbrev pub invariant-loop-place : goal.invariant-loop-place
invariant-loop-place g l = (k : ℕ) → k < l.place → ¬ HasOtherBelow l.table k
