use Rattle.std.proofs.Common.{subst}
use Rattle.nz_system.specs.Meaning.{SystemData}
use Rattle.nz_measures.proofs.SystemCauses.{described_above}
use Rattle.nz_frame.specs.Frames.{AreGeneratorsTooLarge}
use Rattle.nz_frame.proofs.faces.faces_of.Goals as goal

pub returns-in-Err-clause-cause : goal.returns-in-Err-clause-cause
returns-in-Err-clause-cause g c = λ e.
    let k = subst (λ (d : SystemData). AreGeneratorsTooLarge g.T.Scalar.HALF d.system.width d.system.gens) c.system.view_is (c.in-Err.ensures.cause e) in
    described_above g.T.Scalar.HALF c.args.system.now.system k.list k.given k.large
