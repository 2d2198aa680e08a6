use Rattle.nz_run.proofs.Answered.{listed}
use Rattle.nz_run.proofs.laws.listings_are_answered.Goals as goal

pub returns : goal.returns
returns c = listed c.words_order_one_thing.ensures c.texts_have_one_file.ensures
