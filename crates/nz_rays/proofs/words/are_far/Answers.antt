use Rattle.nz_rays.proofs.WordLemmas.{all_far}
use Rattle.nz_rays.proofs.words.are_far.Goals as goal

pub returns-then-have_few : goal.returns-then-have_few
returns-then-have_few c = λ t. all_far c.args.columns.now c.args.first c.args.needed c.args.places.now (c.if-have_few.ensures t)
