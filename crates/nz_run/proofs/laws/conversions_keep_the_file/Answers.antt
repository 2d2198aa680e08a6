use Rattle.nz_run.proofs.ModeTexts.{conversions_keep_the_file}
use Rattle.nz_run.proofs.laws.conversions_keep_the_file.Goals as goal

pub returns : goal.returns
returns c = conversions_keep_the_file c.texts_keep_limits.ensures c.written_files_are_read_back.ensures
