use Rattle.std.proofs.Common.{ℕ, List, ◌<◌, length, take}
use Rattle.std.specs.List.{AllByRecursion as Each}
use Rattle.nz_rays.specs.Crossings.{AreCommon, IsThird}
use Rattle.nz_rays.specs.Words.{AreColumns}
use Rattle.nz_rays.proofs.crossings.are_adjacent.Given as goal

abbrev pub invariant-loop-index : goal.invariant-loop-index
invariant-loop-index l = (sets : List (List ℕ)) → AreColumns sets l.columns → l.above < length sets → l.below < length sets → Each (λ k. k < length sets) l.near → (common : List ℕ) → AreCommon sets l.above l.below common
    → Each (λ k. ¬ IsThird sets common l.above l.below k) (take l.index l.near)
