use Rattle.std.proofs.Common.{length, refl, sym, ap, ◌∙◌, subst, ◌++◌, ◌∷◌, [], get_or, List}
use Rattle.nz_spec.specs.Vectors.{Vector}
use Rattle.nz_cover.specs.Corners.{Vertex, AreReady, IsExtended, all_forms}
use Rattle.nz_cover.specs.Placed.{ArePlaced}
use Rattle.nz_range.specs.Measures.{AreLargeFor}
use Rattle.nz_cover.proofs.FacetLaws.{placed_too_large}
use Rattle.nz_cover.proofs.PlacedLemmas.{ready_of, placed_more, large_facet_of}
use Rattle.nz_cover.proofs.placing.Placing.absorb.Goals as goal

pub extension-requires-clause-ready : goal.extension-requires-clause-ready
extension-requires-clause-ready g c = subst (AreReady (length (get_or c.args.rays.now c.args.place [])) c.args.rays.now c.args.place) (sym c.as_slice.ensures.value)
    (ready_of (length (get_or c.args.rays.now c.args.place [])) c.args.rays.now c.args.self.now.placed c.args.place c.args.self.now.cells.items c.args.self.now.facets c.requires.placed c.requires.fresh)

pub returns-in-Err : goal.returns-in-Err
returns-in-Err g c = λ e. placed_too_large g.T.Scalar.HALF (length (get_or c.args.rays.now c.args.place [])) c.args.rays.now c.args.self.now.placed c.args.place c.args.self.now.cells.items c.args.self.now.facets c.requires.widths c.requires.within c.requires.inside c.requires.placed c.rays-facets.ensures.description
    (subst (λ (fs : List Vector). AreLargeFor g.T.Scalar.HALF (get_or c.args.rays.now c.args.place []) (fs ++ all_forms c.args.self.now.cells.items)) c.rays-facets.ensures.value
    (subst (λ (cs : List (List Vertex)). AreLargeFor g.T.Scalar.HALF (get_or c.args.rays.now c.args.place []) (c.rays-facets.result.now ++ all_forms cs)) c.as_slice.ensures.value (c.in-Err.ensures e)))

pub returns-in-Err-add : goal.returns-in-Err-add
returns-in-Err-add g c = λ e. placed_too_large g.T.Scalar.HALF (length (get_or c.args.rays.now c.args.place [])) c.args.rays.now c.args.self.now.placed c.args.place c.args.self.now.cells.items c.args.self.now.facets c.requires.widths c.requires.within c.requires.inside c.requires.placed c.rays-facets.ensures.description
    (large_facet_of g.T.Scalar.HALF (get_or c.args.rays.now c.args.place []) c.at.result.now c.args.self.now.facets.rays (all_forms c.args.self.now.cells.items) c.at.ensures (c.in-Err-add.ensures.range e))

pub returns-in-Ok-push : goal.returns-in-Ok-push
returns-in-Ok-push g c =
    let w = length (get_or c.args.rays.now c.args.place []) in
    let x = subst (λ (fs : List Vector). IsExtended c.args.rays.now c.args.place fs c.args.self.now.cells.items c.in-Ok.more.items) c.rays-facets.ensures.value
    (subst (λ (cs : List (List Vertex)). IsExtended c.args.rays.now c.args.place c.rays-facets.result.now cs c.in-Ok.more.items) c.as_slice.ensures.value c.in-Ok.ensures) in
    let next = placed_more w c.args.rays.now c.args.self.now.placed c.args.place c.args.self.now.cells.items c.in-Ok.more.items c.append.new.self.items c.args.self.now.facets c.add.new.self refl c.requires.placed c.rays-facets.ensures.description x c.in-Ok-append.ensures.items
    c.in-Ok-add.ensures.rows.0 (c.in-Ok-add.ensures.rows.1 ∙ ap (λ (v : Vector). c.args.self.now.facets.rows ++ v ∷ []) c.at.ensures) in
    (c.in-Ok-push.ensures.ok, subst (λ (ps : _). ArePlaced w c.args.rays.now ps c.append.new.self.items c.add.new.self) (sym c.in-Ok-push.ensures.ok) next)
