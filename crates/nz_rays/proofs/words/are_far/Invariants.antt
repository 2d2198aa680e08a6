use Rattle.std.proofs.Common.{take}
use Rattle.std.specs.List.{AllByRecursion as Each}
use Rattle.nz_rays.specs.Words.{HaveFew}
use Rattle.nz_rays.proofs.words.are_far.Given as goal

abbrev pub invariant-loop-index : goal.invariant-loop-index
invariant-loop-index l = Each (λ k. HaveFew l.columns l.first k l.needed) (take l.index l.places)
