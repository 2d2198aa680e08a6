use Rattle.std.proofs.Common.{◌≡◌, map, take}
use Rattle.nz_cover.specs.Corners.{places_of, forms_of}
use Rattle.nz_cover.proofs.ListingLemmas.{cell_of}
use Rattle.nz_cover.proofs.listing.listed.Given as goal

abbrev pub invariant-loop-i : goal.invariant-loop-i
invariant-loop-i g l = (l.simplices ≡ map (λ k. places_of (cell_of l.cells k)) (take l.i l.keys)) × (l.forms ≡ map (λ k. forms_of (cell_of l.cells k)) (take l.i l.keys))
