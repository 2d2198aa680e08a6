use Rattle.nz_run.proofs.Answered.{answered}
use Rattle.nz_run.proofs.laws.valid_runs_are_answered.Goals as goal

pub returns : goal.returns
returns c = answered c.words_order_one_thing.ensures c.texts_have_one_file.ensures
