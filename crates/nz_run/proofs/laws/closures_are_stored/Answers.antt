use Rattle.nz_run.proofs.ClosureTexts.{closures_are_stored}
use Rattle.nz_run.proofs.laws.closures_are_stored.Goals as goal

pub returns : goal.returns
returns c = closures_are_stored c.words_order_one_thing.ensures c.texts_have_one_file.ensures c.texts_keep_limits.ensures c.closures_are_answered.ensures.modules c.closures_are_answered.ensures.basis
