use Rattle.nz_symbolic.proofs.PrefixEnding.{prefixes-end}
use Rattle.nz_symbolic.proofs.laws.prefixes_have_endings.Goals as goal

pub returns : goal.returns
returns c = prefixes-end
