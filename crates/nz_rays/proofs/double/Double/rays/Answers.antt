use Rattle.std.proofs.Common.{subst}
use Rattle.nz_rays.specs.Descriptions.{ListsRays}
use Rattle.nz_rays.proofs.StartLemmas.{lists_rays}
use Rattle.nz_rays.proofs.double.Double.rays.Goals as goal

pub returns-clause-rays : goal.returns-clause-rays
returns-clause-rays g c = subst ListsRays c.self.view_is (lists_rays _ c.self.invariant.description)
