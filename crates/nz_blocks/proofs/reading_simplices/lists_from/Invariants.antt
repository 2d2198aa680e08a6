use Rattle.std.proofs.Common.{◌≡◌, ℕ, ◌<◌, List, take, map}
use Rattle.std.specs.List.{AllByRecursion as Each}
use Rattle.nz_blocks.specs.Output.{from_one}
use Rattle.nz_blocks.proofs.reading_simplices.lists_from.Given as goal

abbrev pub invariant-loop-index : goal.invariant-loop-index
invariant-loop-index l = record {
  below : Each (Each (λ p. p < l.count)) l.lists;
  part : (lists : List (List ℕ)) → Each (Each (λ p. p < l.count)) lists → l.rows ≡ map from_one lists → l.lists ≡ take l.index lists;
}
