use Rattle.std.proofs.Common.{ℕ, length, subst}
use Rattle.nz_cover.specs.Placing.{IsPlaced, IsTooLargeToPlace}
use Rattle.nz_measures.specs.Reaches.{HasPrimalAbove}
use Rattle.nz_primal.specs.Parts.{WhereRange, IsElementCause}
use Rattle.nz_primal.proofs.NumberCauses.{settle_above, placing_above, face_swept, element_above}
use Rattle.nz_primal.proofs.RangeLemmas.{where_map, where_first, where_last, place_where}
use Rattle.nz_primal.proofs.GeneratorLemmas.{pointed_of_simplex}
use Rattle.nz_primal.proofs.RunLemmas as run
use Rattle.nz_primal.proofs.running.primal.Goals as goal

pub returns-in-Err-clause-lists : goal.returns-in-Err-clause-lists
returns-in-Err-clause-lists g c = run.first_refused (length c.args.simplex.now.places) c.args.rows.now c.args.order.now c.args.limit c.args.told_before _ c.in-Err.refusal c.before_stages.result c.before_stages.ensures

pub place-requires : goal.place-requires
place-requires g c = run.placeable_at (length c.args.simplex.now.places) c.args.rows.now c.args.order.now c.in-Ok.settled.0 c.in-Ok.settled.1.base c.in-Ok.settled.1.rays c.in-Ok.settled.1.rows c.requires.widths (pointed_of_simplex (length c.args.simplex.now.places) c.args.rows.now c.args.simplex.now.rays c.args.simplex.now.places c.requires.simplex) c.in-Ok.ensures.found c.rank.result c.rank.ensures.count

pub returns-in-Err-place-clause-lists : goal.returns-in-Err-place-clause-lists
returns-in-Err-place-clause-lists g c = run.place_refused_at (length c.args.simplex.now.places) c.args.rows.now c.args.order.now c.in-Ok.settled.0 c.in-Ok.settled.1.base c.in-Ok.settled.1.rays c.in-Ok.settled.1.rows c.requires.widths (pointed_of_simplex (length c.args.simplex.now.places) c.args.rows.now c.args.simplex.now.rays c.args.simplex.now.places c.requires.simplex) c.in-Ok.ensures.found c.rank.result c.rank.ensures.count g.T.Scalar.HALF c.args.limit c.args.told_before _ _ c.in-Err-place.refusal c.in-Err-place.ensures

pub elements-requires-clause-cone : goal.elements-requires-clause-cone
elements-requires-clause-cone g c = run.settled_cone (length c.args.simplex.now.places) c.args.rows.now c.args.order.now c.in-Ok.settled.0 c.in-Ok.settled.1.base c.in-Ok.settled.1.rays c.in-Ok.settled.1.rows c.requires.widths (pointed_of_simplex (length c.args.simplex.now.places) c.args.rows.now c.args.simplex.now.rays c.args.simplex.now.places c.requires.simplex) c.in-Ok.ensures.found

pub elements-requires-clause-base : goal.elements-requires-clause-base
elements-requires-clause-base g c = run.settled_base (length c.args.simplex.now.places) c.args.rows.now c.args.order.now c.in-Ok.settled.0 c.in-Ok.settled.1.base c.in-Ok.settled.1.rays c.in-Ok.settled.1.rows c.requires.widths (pointed_of_simplex (length c.args.simplex.now.places) c.args.rows.now c.args.simplex.now.rays c.args.simplex.now.places c.requires.simplex) c.in-Ok.ensures.found

pub stages-requires : goal.stages-requires
stages-requires g c = run.no_rays (length c.args.simplex.now.places) c.args.rows.now c.args.order.now c.in-Ok.settled.0 c.in-Ok.settled.1.base c.in-Ok.settled.1.rays c.in-Ok.settled.1.rows c.requires.widths (pointed_of_simplex (length c.args.simplex.now.places) c.args.rows.now c.args.simplex.now.rays c.args.simplex.now.places c.requires.simplex) c.in-Ok.ensures.found

pub stages-requires-in-Err-elements : goal.stages-requires-in-Err-elements
stages-requires-in-Err-elements g c = run.no_rays (length c.args.simplex.now.places) c.args.rows.now c.args.order.now c.in-Ok.settled.0 c.in-Ok.settled.1.base c.in-Ok.settled.1.rays c.in-Ok.settled.1.rows c.requires.widths (pointed_of_simplex (length c.args.simplex.now.places) c.args.rows.now c.args.simplex.now.rays c.args.simplex.now.places c.requires.simplex) c.in-Ok.ensures.found

pub returns-in-Ok-elements-clause-lists : goal.returns-in-Ok-elements-clause-lists
returns-in-Ok-elements-clause-lists g c = run.found_at (length c.args.simplex.now.places) c.args.rows.now c.args.order.now c.in-Ok.settled.0 c.in-Ok.settled.1.base c.in-Ok.settled.1.rays c.in-Ok.settled.1.rows c.requires.widths (pointed_of_simplex (length c.args.simplex.now.places) c.args.rows.now c.args.simplex.now.rays c.args.simplex.now.places c.requires.simplex) c.in-Ok.ensures.found c.rank.result c.rank.ensures.count c.args.told_before _ _ c.in-Ok-elements.list c.in-Ok-place.cover.simplices c.in-Ok-place.cover.forms c.in-Ok-place.ensures c.in-Ok-elements.ensures.lists

pub returns-in-Err-elements-clause-lists : goal.returns-in-Err-elements-clause-lists
returns-in-Err-elements-clause-lists g c = run.walk_refused_at (length c.args.simplex.now.places) c.args.rows.now c.args.order.now c.in-Ok.settled.0 c.in-Ok.settled.1.base c.in-Ok.settled.1.rays c.in-Ok.settled.1.rows c.requires.widths (pointed_of_simplex (length c.args.simplex.now.places) c.args.rows.now c.args.simplex.now.rays c.args.simplex.now.places c.requires.simplex) c.in-Ok.ensures.found c.rank.result c.rank.ensures.count c.args.limit c.args.told_before _ _ c.in-Ok-place.cover.simplices c.in-Ok-place.cover.forms c.in-Err-elements.refusal c.after_stages.result c.stages-in-Err-elements.result c.in-Ok-place.ensures c.in-Err-elements.ensures.lists c.stages-in-Err-elements.ensures c.after_stages.ensures

pub returns-in-Err-clause-range : goal.returns-in-Err-clause-range
returns-in-Err-clause-range g c = where_first (HasPrimalAbove g.T.Scalar.HALF (length c.args.simplex.now.places) c.args.rows.now c.args.order.now) c.in-Err.refusal c.args.told_before c.before_stages.result c.before_stages.ensures
    (λ e. settle_above g.T.Scalar.HALF g.T.Scalar.fits g.met.T.Scalar.room (length c.args.simplex.now.places) c.args.rows.now c.args.order.now (pointed_of_simplex (length c.args.simplex.now.places) c.args.rows.now c.args.simplex.now.rays c.args.simplex.now.places c.requires.simplex) (c.in-Err.ensures.cause e))

pub returns-in-Err-place-clause-range : goal.returns-in-Err-place-clause-range
returns-in-Err-place-clause-range g c =
    let w = length c.args.simplex.now.places in
    where_map (IsTooLargeToPlace g.T.Scalar.HALF (length c.in-Ok.settled.1.base.vectors) c.in-Ok.settled.1.rays) (HasPrimalAbove g.T.Scalar.HALF (length c.args.simplex.now.places) c.args.rows.now c.args.order.now)
    (placing_above w c.args.rows.now c.args.order.now c.in-Ok.settled.0 c.in-Ok.settled.1.base c.in-Ok.settled.1.rays c.in-Ok.settled.1.rows c.requires.widths c.requires.order.widths (pointed_of_simplex (length c.args.simplex.now.places) c.args.rows.now c.args.simplex.now.rays c.args.simplex.now.places c.requires.simplex) c.in-Ok.ensures.found (face_swept w c.args.rows.now c.in-Ok.settled.0 (pointed_of_simplex (length c.args.simplex.now.places) c.args.rows.now c.args.simplex.now.rays c.args.simplex.now.places c.requires.simplex) c.in-Ok.ensures.found.once.extreme c.in-Ok.settled.1.base c.in-Ok.ensures.sweeps) g.T.Scalar.HALF)
    c.in-Err-place.refusal (subst (λ (n : ℕ). WhereRange (IsTooLargeToPlace g.T.Scalar.HALF n c.in-Ok.settled.1.rays) c.in-Err-place.refusal) c.rank.ensures.count
    (place_where g.T.Scalar.HALF c.rank.result c.in-Ok.settled.1.rays c.args.told_before _ _ c.in-Err-place.refusal c.in-Err-place.ensures))

pub returns-in-Err-elements-clause-range : goal.returns-in-Err-elements-clause-range
returns-in-Err-elements-clause-range g c =
    let w = length c.args.simplex.now.places in
    where_last (HasPrimalAbove g.T.Scalar.HALF (length c.args.simplex.now.places) c.args.rows.now c.args.order.now) c.in-Err-elements.refusal c.args.told_before c.stages-in-Err-elements.result c.after_stages.result c.after_stages.ensures
    (where_map (IsElementCause g.T.Scalar.HALF g.T.Scalar.fits c.in-Ok.settled.1.base c.in-Ok.settled.1.rays c.in-Ok.settled.1.rows c.in-Ok-place.cover.simplices c.in-Ok-place.cover.forms) (HasPrimalAbove g.T.Scalar.HALF (length c.args.simplex.now.places) c.args.rows.now c.args.order.now)
    (element_above g.T.Scalar.HALF g.T.Scalar.fits g.met.T.Scalar.room w c.args.rows.now c.args.order.now c.in-Ok.settled.0 c.in-Ok.settled.1.base c.in-Ok.settled.1.rays c.in-Ok.settled.1.rows c.in-Ok-place.cover.simplices c.in-Ok-place.cover.forms c.requires.widths c.requires.order.widths (pointed_of_simplex (length c.args.simplex.now.places) c.args.rows.now c.args.simplex.now.rays c.args.simplex.now.places c.requires.simplex) c.in-Ok.ensures.found c.in-Ok.ensures.sweeps
    (subst (λ (n : ℕ). IsPlaced n c.in-Ok.settled.1.rays c.in-Ok-place.cover.simplices c.in-Ok-place.cover.forms) c.rank.ensures.count c.in-Ok-place.ensures.0))
    c.in-Err-elements.refusal c.in-Err-elements.ensures.cause)

pub returns-in-Ok-elements-clause-stages : goal.returns-in-Ok-elements-clause-stages
returns-in-Ok-elements-clause-stages g c = run.counted_at (length c.args.simplex.now.places) c.args.rows.now c.args.order.now c.in-Ok.settled.0 c.in-Ok.settled.1.base c.in-Ok.settled.1.rays c.in-Ok.settled.1.rows c.requires.widths (pointed_of_simplex (length c.args.simplex.now.places) c.args.rows.now c.args.simplex.now.rays c.args.simplex.now.places c.requires.simplex) c.in-Ok.ensures.found c.rank.result c.rank.ensures.count c.args.told_before _ _ c.in-Ok-place.ensures.1 c.stages.result c.stages.ensures
