use Rattle.std.proofs.Common.{length, ◌∷◌, []}
use Rattle.nz_cover.specs.Corners.{IsExtended, vertex}
use Rattle.nz_cover.proofs.ReplacedCorners.{forms_width}
use Rattle.nz_cover.proofs.AddedLemmas.{extended_none, appends_none, extended_skip, extended_more, ready_cell, large_cell}
use Rattle.nz_cover.proofs.adding.add_on.Goals as goal
use Rattle.nz_cover.proofs.adding.add_on.Goals.{in-Some+in-Ok+in-Ok-push, in-None}

pub loop-index-init : goal.loop-index-init
loop-index-init g c = appends_none (IsExtended c.args.rays.now c.args.place (c.args.facet.now ∷ []) []) c.args.added.items (extended_none c.args.rays.now c.args.place (c.args.facet.now ∷ []))

pub across-requires : goal.across-requires
across-requires g c = forms_width (length c.args.facet.now) c.args.rays.now c.index-cells-index.result (ready_cell (length c.args.facet.now) c.args.rays.now c.args.place c.loop-index.index c.args.cells.now c.index-cells-index.result c.requires.ready c.loop-index-test.true c.index-cells-index.is)

pub replaced-requires-clause-cell : goal.replaced-requires-clause-cell
replaced-requires-clause-cell g c = ready_cell (length c.args.facet.now) c.args.rays.now c.args.place c.loop-index.index c.args.cells.now c.index-cells-index.result c.requires.ready c.loop-index-test.true c.index-cells-index.is

pub returns-in-Err : goal.returns-in-Err
returns-in-Err g c = λ e. large_cell g.T.Scalar.HALF _ c.args.facet.now c.args.cells.now c.index-cells-index.result c.loop-index.index c.loop-index-test.true c.index-cells-index.is (c.in-Err.ensures e)

pub loop-index-preserved : goal.loop-index-preserved
loop-index-preserved g c = elim c.match-across.branch [
  | in-Some+in-Ok+in-Ok-push w ↦ rw w.added-is (extended_more c.args.rays.now c.args.place c.loop-index.index c.args.facet.now c.args.cells.now c.index-cells-index.result w.in-Ok.new w.in-Some.corner (vertex 0 []) c.args.added.items c.loop-index.added.items w.push.new.self.items c.loop-index-test.true c.index-cells-index.is c.requires.ready.different c.requires.seen w.in-Some.ensures.0 w.in-Some.ensures.1 w.in-Ok.ensures c.loop-index.invariant w.in-Ok-push.ensures.items)
  | in-None w ↦ rw w.added-is (extended_skip c.args.rays.now c.args.place c.loop-index.index c.args.facet.now c.args.cells.now c.index-cells-index.result c.args.added.items c.loop-index.added.items c.loop-index-test.true c.index-cells-index.is w.in-None.ensures c.loop-index.invariant)
]
