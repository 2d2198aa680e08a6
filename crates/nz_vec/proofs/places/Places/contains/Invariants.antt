use Rattle.std.proofs.Common.{◌≢◌, take}
use Rattle.std.specs.List.{AllByRecursion as Each}
use Rattle.nz_vec.proofs.places.Places.contains.Given as goal

abbrev pub invariant-loop-index : goal.invariant-loop-index
invariant-loop-index l = Each (λ p. p ≢ l.place) (take l.index l.self)
