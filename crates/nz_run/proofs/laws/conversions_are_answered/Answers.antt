use Rattle.nz_run.proofs.Answered.{converted}
use Rattle.nz_run.proofs.laws.conversions_are_answered.Goals as goal

pub returns : goal.returns
returns c = converted c.words_order_one_thing.ensures c.texts_have_one_file.ensures
