use Rattle.std.proofs.Common.{◌<◌, length, sym, subst, arith, [], List}
use Rattle.nz_cover.specs.Corners.{Vertex, IsExtended, all_forms}
use Rattle.nz_cover.proofs.AddedLemmas.{extended_no_facet, extended_join, large_some}
use Rattle.nz_cover.proofs.adding.extension.Goals as goal

pub loop-index-init : goal.loop-index-init
loop-index-init g c = subst (λ (xs : List (List Vertex)). IsExtended c.args.rays.now c.args.place [] c.args.cells.now xs) (sym c.new-added.ensures.items) (extended_no_facet c.args.rays.now c.args.place c.args.cells.now)

pub returns-in-Err : goal.returns-in-Err
returns-in-Err g c =
    let within : c.loop-index.index < length c.args.facets.now = omega (arith, c.loop-index-test.true, c.len-index-end.ensures) in
    λ e. large_some g.T.Scalar.HALF _ c.at.result.now c.loop-index.index c.args.facets.now (all_forms c.args.cells.now) within c.at.ensures (c.in-Err.ensures e)

pub loop-index-preserved : goal.loop-index-preserved
loop-index-preserved g c =
    let within : c.loop-index.index < length c.args.facets.now = omega (arith, c.loop-index-test.true, c.len-index-end.ensures) in
    extended_join c.args.rays.now c.args.place c.loop-index.index c.args.facets.now c.at.result.now c.args.cells.now c.loop-index.added.items c.in-Ok.added.items within c.at.ensures c.requires.different c.loop-index.invariant c.in-Ok.ensures
