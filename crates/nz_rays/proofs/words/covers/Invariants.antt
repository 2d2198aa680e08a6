use Rattle.nz_rays.proofs.WordLemmas.{AreCovered}
use Rattle.nz_rays.proofs.words.covers.Given as goal

abbrev pub invariant-loop-number : goal.invariant-loop-number
invariant-loop-number l = AreCovered l.columns l.first l.second l.place l.number
