use Rattle.std.proofs.Common.{length, ◌≢◌, sym, subst, []}
use Rattle.std.specs.List.{AllByRecursion as Each, AllZip}
use Rattle.nz_spec.specs.Vectors.{Vector}
use Rattle.nz_cover.specs.Corners.{Vertex, vertex, without, AreInOrder, IsBetween, IsTiltedAt}
use Rattle.nz_cover.proofs.CornerLemmas.{pairwise_without, each_without}
use Rattle.nz_cover.proofs.ReplacedCorners.{form_widths_at, tilted_in_order, tilted_fresh, replaced_is, inserted}
use Rattle.nz_cover.proofs.corners.replaced.Goals as goal

pub tilted_others-requires-clause-forms : goal.tilted_others-requires-clause-forms
tilted_others-requires-clause-forms g c = form_widths_at (length c.args.facet.now) c.args.rays.now c.args.cell.now c.at-ray.result.now _ c.at-ray.ensures c.requires.width c.requires.cell

pub position_of-position-requires-clause-in_order : goal.position_of-position-requires-clause-in_order
position_of-position-requires-clause-in_order g c = subst AreInOrder (sym c.as_slice.ensures.value) (tilted_in_order c.at-ray.result.now c.args.facet.now (without c.args.across c.args.cell.now) c.in-Ok.corners.items c.in-Ok.ensures (pairwise_without _ c.args.across c.args.cell.now c.requires.in_order))

pub position_of-position-requires-clause-fresh : goal.position_of-position-requires-clause-fresh
position_of-position-requires-clause-fresh g c = subst (Each (λ (u : Vertex). u.place ≢ c.args.place)) (sym c.as_slice.ensures.value) (tilted_fresh c.at-ray.result.now c.args.facet.now c.args.place (without c.args.across c.args.cell.now) c.in-Ok.corners.items c.in-Ok.ensures (each_without (λ (u : Vertex). u.place ≢ c.args.place) c.args.across c.args.cell.now c.requires.fresh))

pub returns-in-Ok-insert : goal.returns-in-Ok-insert
returns-in-Ok-insert g c =
    let z = subst (λ (x : Vector). AllZip (IsTiltedAt x c.args.facet.now) (without c.args.across c.args.cell.now) c.in-Ok.corners.items) c.at-ray.ensures c.in-Ok.ensures in
    let b = subst (λ (xs : _). IsBetween c.args.place xs c.position_of-position.result) c.as_slice.ensures.value c.position_of-position.ensures in
    replaced_is (length c.args.facet.now) c.args.rays.now c.args.place c.args.across c.position_of-position.result c.args.facet.now c.args.cell.now c.in-Ok.corners.items c.insert.new.self.items (vertex 0 []) c.requires.cell c.requires.seen c.requires.across c.requires.form c.requires.in_order z b (inserted c.in-Ok.corners.items c.insert.new.self.items c.position_of-position.result c.args.place c.in-Ok-opposite.form c.args.facet.now c.in-Ok-opposite.ensures c.in-Ok-insert.ensures.items)
