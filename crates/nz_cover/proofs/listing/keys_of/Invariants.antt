use Rattle.nz_cover.proofs.ListingLemmas.{AreFirstKeys}
use Rattle.nz_cover.proofs.listing.keys_of.Given as goal

abbrev pub invariant-loop-index : goal.invariant-loop-index
invariant-loop-index g l = AreFirstKeys l.cells l.index l.keys.items
