use Rattle.std.proofs.Common.{length, refl, ap, ◌∙◌, ◌++◌, ◌∷◌, [], List}
use Rattle.nz_cover.specs.Corners.{Vertex}
use Rattle.nz_cover.proofs.PlacedLemmas.{begun_is}
use Rattle.nz_cover.proofs.placing.begun.Goals as goal

pub returns-clause-ok : goal.returns-clause-ok
returns-clause-ok g c = (
  refl,
  begun_is (length c.args.simplex.places) c.args.rays.now c.args.simplex.places c.args.simplex.rays c.in-Ok-first_cell.cell c.push.new.self.items c.in-Ok.facets c.requires c.in-Ok.ensures.rows.0 c.in-Ok.ensures.rows.1 c.in-Ok-first_cell.ensures
      (c.in-Ok-push.ensures.items ∙ ap (λ (xs : List (List Vertex)). xs ++ c.in-Ok-first_cell.cell ∷ []) c.new-cells.ensures.items),
)
