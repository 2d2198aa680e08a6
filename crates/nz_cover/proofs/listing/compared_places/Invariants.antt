use Rattle.std.proofs.Common.{◌≡◌, take}
use Rattle.nz_cover.specs.Corners.{places_of}
use Rattle.nz_cover.proofs.listing.compared_places.Given as goal

abbrev pub invariant-loop-j : goal.invariant-loop-j
invariant-loop-j g l = l.places.items ≡ places_of (take l.j l.cell)
