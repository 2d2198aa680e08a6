use Rattle.nz_run.proofs.Answered.{unbounded}
use Rattle.nz_run.proofs.laws.unbounded_are_answered.Goals as goal

pub returns : goal.returns
returns c = unbounded c.words_order_one_thing.ensures c.texts_have_one_file.ensures
