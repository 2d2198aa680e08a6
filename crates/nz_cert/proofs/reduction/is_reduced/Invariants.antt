use Rattle.nz_range.specs.Measures.{measure}
use Rattle.nz_cert.proofs.ReductionLemmas.{IsLeft}
use Rattle.nz_cert.proofs.reduction.is_reduced.Given as goal

abbrev pub invariant-takings : goal.invariant-takings
invariant-takings l = IsLeft l.table l.values l.left

abbrev pub decreases-takings : goal.decreases-takings
decreases-takings l = measure l.left
