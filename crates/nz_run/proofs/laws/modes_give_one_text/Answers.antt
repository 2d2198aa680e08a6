use Rattle.nz_run.proofs.ModeTexts.{modes_give_one_text}
use Rattle.nz_run.proofs.laws.modes_give_one_text.Goals as goal

pub returns : goal.returns
returns c = modes_give_one_text c.modes_agree.ensures.modes
