use Rattle.nz_run.proofs.Answered.{pointed}
use Rattle.nz_run.proofs.laws.points_are_answered.Goals as goal

pub returns : goal.returns
returns c = pointed c.words_order_one_thing.ensures c.texts_have_one_file.ensures
