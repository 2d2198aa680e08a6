use Rattle.nz_words.proofs.Unique.{order_one}
use Rattle.nz_words.proofs.laws.words_order_one_thing.Goals as goal

pub returns : goal.returns
returns c = order_one
