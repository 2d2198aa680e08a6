use Rattle.nz_run.proofs.ModeTexts.{runs_give_one_text}
use Rattle.nz_run.proofs.laws.runs_give_one_text.Goals as goal

pub returns : goal.returns
returns c = runs_give_one_text c.modes_give_one_text.ensures c.texts_have_one_file.ensures c.texts_keep_limits.ensures
