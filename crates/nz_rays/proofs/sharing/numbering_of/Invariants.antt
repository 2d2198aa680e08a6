use Rattle.nz_rays.specs.Shared.{AreNumberedBoth}
use Rattle.nz_rays.proofs.sharing.numbering_of.Given as goal

abbrev pub invariant-loop-place : goal.invariant-loop-place
invariant-loop-place l = AreNumberedBoth l.first l.second l.place l.shared l.numbers.items
