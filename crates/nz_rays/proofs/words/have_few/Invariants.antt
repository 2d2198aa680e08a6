use Rattle.nz_rays.proofs.WordLemmas.{IsCounted}
use Rattle.nz_rays.proofs.words.have_few.Given as goal

abbrev pub invariant-loop-number : goal.invariant-loop-number
invariant-loop-number l = IsCounted l.columns l.first l.second l.number l.missing l.needed
