use Rattle.std.proofs.Common.{◌+◌, subst, sym}
use Rattle.nz_spec.specs.Systems.{System}
use Rattle.nz_measures.proofs.CrowdExamples.{wedge_above_six, wedge_not_above_seven}
use Rattle.nz_measures.proofs.DualCrowdExamples.{wedge_dual_above_six, wedge_dual_not_above_seven}
use Rattle.nz_worked.specs.Files.{wedge_file}
use Rattle.nz_worked.specs.Laws.{HasPrimalCrowd, HasDualCrowd}
use Rattle.nz_system.specs.Meaning.{system_of}
use Rattle.nz_worked.proofs.Lowering.{primal_crowd_is, dual_crowd_is}
use Rattle.nz_worked.proofs.OrthantCrowds.{orthant_primal_below, orthant_primal_above, orthant_dual_below, orthant_dual_above}
use Rattle.nz_worked.proofs.OrthantFiles.{orthant_system}
use Rattle.nz_worked.proofs.crowds_are_known.Goals as goal

pub returns-clause-orthant : goal.returns-clause-orthant
returns-clause-orthant g = λ n. subst (λ (s : System). HasPrimalCrowd s (n + 1) × HasDualCrowd s (n + 1)) (sym (orthant_system n)) (
  λ m. (orthant_primal_below n m, orthant_primal_above n m),
  λ m. (orthant_dual_below n m, orthant_dual_above n m),
)

pub returns-clause-wedge : goal.returns-clause-wedge
returns-clause-wedge g = (primal_crowd_is (system_of wedge_file) 6 wedge_above_six wedge_not_above_seven, dual_crowd_is (system_of wedge_file) 6 wedge_dual_above_six wedge_dual_not_above_seven)
