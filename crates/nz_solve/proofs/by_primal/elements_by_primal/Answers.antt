use Rattle.std.proofs.Common.{◌∙◌, ap, sym, refl, inl, inr, length}
use Rattle.nz_rays.proofs.StartLemmas.{simplex_width}
use Rattle.nz_measures.specs.Reaches.{HasPrimalAbove, IsPrimalReachAbove}
use Rattle.nz_primal.proofs.RangeLemmas.{where_map}
use Rattle.nz_input.specs.declared.kind.Mode.TheVariants.{Primal}
use Rattle.nz_solve.proofs.ToldLemmas.{left_same}
use Rattle.nz_solve.proofs.RangeLemmas.{reckon_refused, own_reach, order_refused, primal_above, elements_refused}
use Rattle.nz_watch.proofs.TellingLemmas.{none_told}
use Rattle.nz_system.specs.Meaning.{SystemData}
use Rattle.nz_solve.proofs.FrameLists.{as_many}
use Rattle.nz_solve.proofs.PrimalLemmas.{order_here, grading_here, pt, list_irreducible_at, extreme_at, rows_at, simplex_at, order_at, list_wide_at, extreme_wide_at, elements_at, told_at, left_at, refused_at}
use Rattle.nz_solve.proofs.by_primal.elements_by_primal.Goals as goal

pub order_forms-requires-clause-width : goal.order_forms-requires-clause-width
order_forms-requires-clause-width g c = c.requires.frame.is_base.width ∙ sym (ap (λ (d : SystemData). d.system.width) c.system.view_is)

pub order_forms-requires-clause-grading : goal.order_forms-requires-clause-grading
order_forms-requires-clause-grading g c = grading_here c.args.system.now.system _ _ (ap (λ (d : SystemData). d.system.width) c.system.view_is) (ap (λ (d : SystemData). d.system.grading) c.system.view_is) c.kept.ensures.system.grading_width

pub returns-in-Err-clause-elements : goal.returns-in-Err-clause-elements
returns-in-Err-clause-elements g c = reckon_refused Primal c.args.system.now.system g.T.Scalar.HALF c.args.limit c.args.told_before c.args.told_before _ _ (inl (refl, none_told _)) c.in-Err.refusal c.counted.result
    (λ e. own_reach Primal c.args.system.now.system g.T.Scalar.HALF (order_refused c.args.system.now.system c.args.frame.now.base c.args.frame.now.rows c.requires.frame c.requires.swept g.T.Scalar.HALF g.T.Scalar.fits g.met.T.Scalar.room _ _ (ap (λ (d : SystemData). d.system.width) c.system.view_is) (ap (λ (d : SystemData). d.system.grading) c.system.view_is) (c.in-Err.ensures.cause e)))
    c.counted.ensures

pub primal-requires-clause-widths : goal.primal-requires-clause-widths
primal-requires-clause-widths g c = rows_at c.args.system.now.system c.args.frame.now.base c.args.frame.now.rows c.kept.ensures.system c.requires.frame c.args.simplex.now.places c.args.simplex.now.rays c.requires.simplex c.in-Ok.order (order_here c.args.system.now.system c.args.frame.now.base c.in-Ok.order _ _ (ap (λ (d : SystemData). d.system.width) c.system.view_is) (ap (λ (d : SystemData). d.system.grading) c.system.view_is) c.in-Ok.ensures.pulled)

pub primal-requires-clause-simplex : goal.primal-requires-clause-simplex
primal-requires-clause-simplex g c = simplex_at c.args.system.now.system c.args.frame.now.base c.args.frame.now.rows c.kept.ensures.system c.requires.frame c.args.simplex.now.places c.args.simplex.now.rays c.requires.simplex c.in-Ok.order (order_here c.args.system.now.system c.args.frame.now.base c.in-Ok.order _ _ (ap (λ (d : SystemData). d.system.width) c.system.view_is) (ap (λ (d : SystemData). d.system.grading) c.system.view_is) c.in-Ok.ensures.pulled)

pub primal-requires-clause-order : goal.primal-requires-clause-order
primal-requires-clause-order g c = order_at c.args.system.now.system c.args.frame.now.base c.args.frame.now.rows c.kept.ensures.system c.requires.frame c.args.simplex.now.places c.args.simplex.now.rays c.requires.simplex c.in-Ok.order (order_here c.args.system.now.system c.args.frame.now.base c.in-Ok.order _ _ (ap (λ (d : SystemData). d.system.width) c.system.view_is) (ap (λ (d : SystemData). d.system.grading) c.system.view_is) c.in-Ok.ensures.pulled)

pub returns-in-Err-primal-clause-elements : goal.returns-in-Err-primal-clause-elements
returns-in-Err-primal-clause-elements g c = refused_at c.args.system.now.system c.args.frame.now.base c.args.frame.now.rows c.kept.ensures.system c.requires.frame c.args.simplex.now.places c.args.simplex.now.rays c.requires.simplex c.in-Ok.order (order_here c.args.system.now.system c.args.frame.now.base c.in-Ok.order _ _ (ap (λ (d : SystemData). d.system.width) c.system.view_is) (ap (λ (d : SystemData). d.system.grading) c.system.view_is) c.in-Ok.ensures.pulled) g.T.Scalar.HALF c.args.limit c.args.told_before _ _ c.in-Err-primal.refusal c.unfinished.result c.in-Err-primal.ensures.lists
    (where_map (HasPrimalAbove g.T.Scalar.HALF (length c.args.simplex.now.places) c.args.frame.now.rows c.in-Ok.order) (IsPrimalReachAbove c.args.system.now.system g.T.Scalar.HALF)
    (primal_above c.args.system.now.system c.args.frame.now.base c.args.frame.now.rows c.requires.frame c.requires.swept g.T.Scalar.HALF g.T.Scalar.fits g.met.T.Scalar.room (length c.args.simplex.now.places) c.in-Ok.order (sym (simplex_width (length c.args.frame.now.base.vectors) c.args.frame.now.rows c.args.simplex.now.rays c.args.simplex.now.places c.requires.simplex)) (order_here c.args.system.now.system c.args.frame.now.base c.in-Ok.order _ _ (ap (λ (d : SystemData). d.system.width) c.system.view_is) (ap (λ (d : SystemData). d.system.grading) c.system.view_is) c.in-Ok.ensures.pulled))
    c.in-Err-primal.refusal c.in-Err-primal.ensures.range)
    c.unfinished.ensures

pub bring_back-requires-clause-list : goal.bring_back-requires-clause-list
bring_back-requires-clause-list g c = list_wide_at c.args.system.now.system c.args.frame.now.base c.args.frame.now.rows c.kept.ensures.system c.requires.frame c.args.simplex.now.places c.args.simplex.now.rays c.requires.simplex c.in-Ok.order (order_here c.args.system.now.system c.args.frame.now.base c.in-Ok.order _ _ (ap (λ (d : SystemData). d.system.width) c.system.view_is) (ap (λ (d : SystemData). d.system.grading) c.system.view_is) c.in-Ok.ensures.pulled) c.in-Ok-primal.lists.list c.in-Ok-primal.lists.extreme c.in-Ok-primal.lists.cover.simplices c.in-Ok-primal.lists.cover.forms c.in-Ok-primal.ensures.lists.0

pub bring_back-requires-clause-extreme : goal.bring_back-requires-clause-extreme
bring_back-requires-clause-extreme g c = extreme_wide_at c.args.system.now.system c.args.frame.now.base c.args.frame.now.rows c.kept.ensures.system c.requires.frame c.args.simplex.now.places c.args.simplex.now.rays c.requires.simplex c.in-Ok.order (order_here c.args.system.now.system c.args.frame.now.base c.in-Ok.order _ _ (ap (λ (d : SystemData). d.system.width) c.system.view_is) (ap (λ (d : SystemData). d.system.grading) c.system.view_is) c.in-Ok.ensures.pulled) c.in-Ok-primal.lists.list c.in-Ok-primal.lists.extreme c.in-Ok-primal.lists.cover.simplices c.in-Ok-primal.lists.cover.forms c.in-Ok-primal.ensures.lists.0

pub returns-in-Ok-bring_back-clause-elements : goal.returns-in-Ok-bring_back-clause-elements
returns-in-Ok-bring_back-clause-elements g c = (
  elements_at c.args.system.now.system c.args.frame.now.base c.args.frame.now.rows c.kept.ensures.system c.requires.frame c.args.simplex.now.places c.args.simplex.now.rays c.requires.simplex c.in-Ok.order (order_here c.args.system.now.system c.args.frame.now.base c.in-Ok.order _ _ (ap (λ (d : SystemData). d.system.width) c.system.view_is) (ap (λ (d : SystemData). d.system.grading) c.system.view_is) c.in-Ok.ensures.pulled) c.in-Ok-primal.lists.list c.in-Ok-primal.lists.extreme c.in-Ok-bring_back.elements.list c.in-Ok-bring_back.elements.extreme c.in-Ok-primal.lists.cover.simplices c.in-Ok-bring_back.elements.simplices c.in-Ok-primal.lists.cover.forms c.in-Ok-primal.ensures.lists.0 c.in-Ok-bring_back.ensures.list c.in-Ok-bring_back.ensures.extreme c.in-Ok-bring_back.ensures.simplices,
  told_at c.args.system.now.system c.args.frame.now.base c.args.frame.now.rows c.kept.ensures.system c.requires.frame c.args.simplex.now.places c.args.simplex.now.rays c.requires.simplex c.in-Ok.order (order_here c.args.system.now.system c.args.frame.now.base c.in-Ok.order _ _ (ap (λ (d : SystemData). d.system.width) c.system.view_is) (ap (λ (d : SystemData). d.system.grading) c.system.view_is) c.in-Ok.ensures.pulled) c.in-Ok-primal.lists.list c.in-Ok-primal.lists.extreme c.in-Ok-primal.lists.cover.simplices c.in-Ok-primal.lists.cover.forms c.args.told_before _ _ c.in-Ok-primal.ensures.lists,
)

pub returns-in-Ok-bring_back-clause-within : goal.returns-in-Ok-bring_back-clause-within
returns-in-Ok-bring_back-clause-within g c = as_many c.args.frame.now.base c.args.limit c.in-Ok-primal.lists.list c.in-Ok-bring_back.elements.list c.in-Ok-bring_back.ensures.list c.in-Ok-primal.ensures.within

pub returns-clause-elements : goal.returns-clause-elements
returns-clause-elements g c =
    reckon_refused Primal c.args.system.now.system g.T.Scalar.HALF c.args.limit c.args.told_before c.max-told.result _ _ (inr (left_at c.args.system.now.system c.args.frame.now.base c.args.frame.now.rows c.kept.ensures.system c.requires.frame c.args.simplex.now.places c.args.simplex.now.rays c.requires.simplex c.in-Ok.order (order_here c.args.system.now.system c.args.frame.now.base c.in-Ok.order _ _ (ap (λ (d : SystemData). d.system.width) c.system.view_is) (ap (λ (d : SystemData). d.system.grading) c.system.view_is) c.in-Ok.ensures.pulled) c.in-Ok-primal.lists.list c.in-Ok-primal.lists.extreme c.in-Ok-primal.lists.cover.simplices c.in-Ok-primal.lists.cover.forms c.args.limit c.args.told_before c.max-told.result c.in-Ok-primal.lists.stages _ _ c.in-Ok-primal.ensures.lists c.in-Ok-primal.ensures.stages c.max-told.ensures))
    c.in-Err-bring_back.refusal c.counted-in-Err-bring_back.result
    (λ e. elements_refused c.args.system.now.system c.args.frame.now.base c.args.frame.now.rows c.requires.frame c.requires.swept g.T.Scalar.HALF g.T.Scalar.fits g.met.T.Scalar.room c.in-Ok-primal.lists.list c.in-Ok-primal.lists.extreme (pt c.args.system.now.system c.args.frame.now.base c.args.frame.now.rows c.kept.ensures.system c.requires.frame c.args.simplex.now.places c.args.simplex.now.rays c.requires.simplex c.in-Ok.order (order_here c.args.system.now.system c.args.frame.now.base c.in-Ok.order _ _ (ap (λ (d : SystemData). d.system.width) c.system.view_is) (ap (λ (d : SystemData). d.system.grading) c.system.view_is) c.in-Ok.ensures.pulled)) (list_irreducible_at c.args.system.now.system c.args.frame.now.base c.args.frame.now.rows c.kept.ensures.system c.requires.frame c.args.simplex.now.places c.args.simplex.now.rays c.requires.simplex c.in-Ok.order (order_here c.args.system.now.system c.args.frame.now.base c.in-Ok.order _ _ (ap (λ (d : SystemData). d.system.width) c.system.view_is) (ap (λ (d : SystemData). d.system.grading) c.system.view_is) c.in-Ok.ensures.pulled) c.in-Ok-primal.lists.list c.in-Ok-primal.lists.extreme c.in-Ok-primal.lists.cover.simplices c.in-Ok-primal.lists.cover.forms c.in-Ok-primal.ensures.lists.0) (extreme_at c.args.system.now.system c.args.frame.now.base c.args.frame.now.rows c.kept.ensures.system c.requires.frame c.args.simplex.now.places c.args.simplex.now.rays c.requires.simplex c.in-Ok.order (order_here c.args.system.now.system c.args.frame.now.base c.in-Ok.order _ _ (ap (λ (d : SystemData). d.system.width) c.system.view_is) (ap (λ (d : SystemData). d.system.grading) c.system.view_is) c.in-Ok.ensures.pulled) c.in-Ok-primal.lists.list c.in-Ok-primal.lists.extreme c.in-Ok-primal.lists.cover.simplices c.in-Ok-primal.lists.cover.forms c.in-Ok-primal.ensures.lists.0) (c.in-Err-bring_back.ensures.cause e))
    c.counted-in-Err-bring_back.ensures

pub returns-in-Ok-bring_back-clause-told : goal.returns-in-Ok-bring_back-clause-told
returns-in-Ok-bring_back-clause-told g c = left_same Primal c.args.system.now.system c.args.limit c.args.told_before c.max-told.result c.in-Ok-bring_back.elements.told _ _ c.in-Ok-bring_back.ensures.told (left_at c.args.system.now.system c.args.frame.now.base c.args.frame.now.rows c.kept.ensures.system c.requires.frame c.args.simplex.now.places c.args.simplex.now.rays c.requires.simplex c.in-Ok.order (order_here c.args.system.now.system c.args.frame.now.base c.in-Ok.order _ _ (ap (λ (d : SystemData). d.system.width) c.system.view_is) (ap (λ (d : SystemData). d.system.grading) c.system.view_is) c.in-Ok.ensures.pulled) c.in-Ok-primal.lists.list c.in-Ok-primal.lists.extreme c.in-Ok-primal.lists.cover.simplices c.in-Ok-primal.lists.cover.forms c.args.limit c.args.told_before c.max-told.result c.in-Ok-primal.lists.stages _ _ c.in-Ok-primal.ensures.lists c.in-Ok-primal.ensures.stages c.max-told.ensures)
