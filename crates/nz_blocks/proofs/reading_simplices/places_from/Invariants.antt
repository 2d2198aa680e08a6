use Rattle.std.proofs.Common.{◌≡◌, ℕ, ◌<◌, List, take}
use Rattle.std.specs.List.{AllByRecursion as Each}
use Rattle.nz_blocks.specs.Output.{from_one}
use Rattle.nz_blocks.proofs.reading_simplices.places_from.Given as goal

abbrev pub invariant-loop-index : goal.invariant-loop-index
invariant-loop-index l = record {
  below : Each (λ p. p < l.count) l.places;
  part : (places : List ℕ) → Each (λ p. p < l.count) places → l.row ≡ from_one places → l.places ≡ take l.index places;
}
