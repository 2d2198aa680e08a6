use Rattle.nz_symbolic.proofs.OneRefusal.{one-refusal}
use Rattle.nz_symbolic.proofs.laws.refusals_are_unique.Goals as goal

pub returns : goal.returns
returns c = one-refusal
