use Rattle.std.proofs.Common.{map, ap, ◌∙◌}
use Rattle.nz_cover.specs.Corners.{places_of, forms_of}
use Rattle.nz_cover.specs.Listing.{AreListed}
use Rattle.nz_cover.specs.declared.listing.Key.{Key}
use Rattle.nz_cover.proofs.ListingLemmas.{cell_of, if_ok_both, sorted_listed, key_found}
use Rattle.nz_cover.proofs.listing.sorted_cover.Goals as goal

pub returns-in-Ok-sort : goal.returns-in-Ok-sort
returns-in-Ok-sort g c = if_ok_both _ _ (λ c'. AreListed c.args.cells.now c'.simplices c'.forms) c.listed.result
    (λ c' e f. sorted_listed c.args.cells.now c.in-Ok.keys.items c.sort.new.self.items c.in-Ok.ensures c.in-Ok-sort.ensures.permutation _ key_found c.in-Ok-sort.ensures.sorted c.requires c'.simplices c'.forms
    (e ∙ ap (map (λ (k : Key). places_of (cell_of c.args.cells.now k))) c.as_slice.ensures.value) (f ∙ ap (map (λ (k : Key). forms_of (cell_of c.args.cells.now k))) c.as_slice.ensures.value)) c.listed.ensures.simplices c.listed.ensures.forms
