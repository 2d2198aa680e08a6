use Rattle.std.proofs.Common.{◌<◌, ◌≢◌}
use Rattle.nz_spec.specs.Order.{IsListOf}
use Rattle.nz_rays.proofs.zero_sets.all_but.Given as goal

abbrev pub invariant-loop-other : goal.invariant-loop-other
invariant-loop-other l = IsListOf ◌<◌ (λ k. (k < l.other) × (k ≢ l.place)) l.others
