use Rattle.std.proofs.Common.{inl}
use Rattle.nz_measures.proofs.ReachExamples.{quadrant_primal_reach, quadrant_dual_reach}
use Rattle.nz_worked.proofs.Reaching.{quadrant_above_none, narrow_above, far_above}
use Rattle.nz_worked.proofs.NarrowReach.{narrow_primal_within, narrow_dual_within}
use Rattle.nz_worked.proofs.reaches_are_known.Goals as goal

pub returns-clause-quadrant : goal.returns-clause-quadrant
returns-clause-quadrant g = ((inl quadrant_above_none, inl quadrant_above_none), (quadrant_primal_reach, quadrant_dual_reach))

pub returns-clause-narrow : goal.returns-clause-narrow
returns-clause-narrow g = ((inl narrow_above, inl narrow_above), (narrow_primal_within, narrow_dual_within))

pub returns-clause-far : goal.returns-clause-far
returns-clause-far g = (inl far_above, inl far_above)
