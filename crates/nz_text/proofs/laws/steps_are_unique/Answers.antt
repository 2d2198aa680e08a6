use Rattle.nz_text.proofs.OneStep.{one-step}
use Rattle.nz_text.proofs.laws.steps_are_unique.Goals as goal

pub returns : goal.returns
returns c = one-step
