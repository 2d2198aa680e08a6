use Rattle.nz_symbolic.proofs.OneFile.{one-file}
use Rattle.nz_symbolic.proofs.laws.texts_have_one_file.Goals as goal

pub returns : goal.returns
returns c = one-file
