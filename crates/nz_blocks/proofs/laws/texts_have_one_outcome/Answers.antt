use Rattle.nz_blocks.proofs.OneOutcome.{one_outcome}
use Rattle.nz_blocks.proofs.laws.texts_have_one_outcome.Goals as goal

pub returns : goal.returns
returns c = one_outcome
