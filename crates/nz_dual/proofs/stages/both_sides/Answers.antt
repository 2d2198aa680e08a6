use Rattle.std.proofs.Common.{◌∙◌, length, ap, subst}
use Rattle.nz_spec.specs.Vectors.{Vector}
use Rattle.nz_dual.specs.DualStages.{IsInsertRefusal}
use Rattle.nz_dual.specs.Sides.{SideLists}
use Rattle.nz_dual.proofs.StageLemmas.{wide_rows, wide_down, wide_list, keep_up, keep_down, part_of, offer_refused, lists_of, lower_refused}
use Rattle.nz_dual.proofs.stages.both_sides.Goals as goal

pub returns-in-Err-lower : goal.returns-in-Err-lower
returns-in-Err-lower g c = lower_refused g.T.Scalar.HALF c.args.limit c.args.rows.now c.args.row.now c.in-Err-lower.refusal c.work_of.result c.in-Err-lower.ensures c.work_of.ensures

pub offer_all-requires-clause-rows_wide : goal.offer_all-requires-clause-rows_wide
offer_all-requires-clause-rows_wide g c = wide_rows c.args.limit c.args.rows.now c.args.row.now c.args.list.now c.requires c.in-Ok.up c.in-Ok-lower.down c.in-Ok.ensures.0 c.in-Ok-lower.ensures.0

pub offer_all-requires-clause-width : goal.offer_all-requires-clause-width
offer_all-requires-clause-width g c = wide_down c.args.limit c.args.rows.now c.args.row.now c.args.list.now c.requires c.in-Ok.up c.in-Ok-lower.down c.in-Ok.ensures.0 c.in-Ok-lower.ensures.0

pub offer_all-requires-clause-widths : goal.offer_all-requires-clause-widths
offer_all-requires-clause-widths g c = wide_list c.args.limit c.args.rows.now c.args.row.now c.args.list.now c.requires c.in-Ok.up c.in-Ok-lower.down c.in-Ok.ensures.0 c.in-Ok-lower.ensures.0

pub offer_all-requires-clause-up : goal.offer_all-requires-clause-up
offer_all-requires-clause-up g c = c.in-Ok.ensures.1.1 c.args.limit

pub offer_all-requires-clause-down : goal.offer_all-requires-clause-down
offer_all-requires-clause-down g c = c.in-Ok-lower.ensures.1.1 c.args.limit

pub offer_all-requires-clause-keeps_up : goal.offer_all-requires-clause-keeps_up
offer_all-requires-clause-keeps_up g c = keep_up c.args.limit c.args.rows.now c.args.row.now c.args.list.now c.requires c.in-Ok.up c.in-Ok-lower.down c.in-Ok.ensures.0 c.in-Ok-lower.ensures.0

pub offer_all-requires-clause-keeps_down : goal.offer_all-requires-clause-keeps_down
offer_all-requires-clause-keeps_down g c = keep_down c.args.limit c.args.rows.now c.args.row.now c.args.list.now c.requires c.in-Ok.up c.in-Ok-lower.down c.in-Ok.ensures.0 c.in-Ok-lower.ensures.0

pub returns-in-Err-offer_all : goal.returns-in-Err-offer_all
returns-in-Err-offer_all g c = offer_refused c.args.limit c.args.rows.now c.args.row.now c.args.list.now c.requires c.in-Ok.up c.in-Ok-lower.down c.in-Ok.ensures.0 c.in-Ok-lower.ensures.0 g.T.Scalar.HALF c.in-Err-offer_all.refusal c.in-Err-offer_all.ensures

pub close-requires : goal.close-requires
close-requires g c =
    let r = c.in-Ok-offer_all.ensures in
    part_of c.args.limit c.args.rows.now c.args.row.now c.args.list.now c.requires c.in-Ok.up c.in-Ok-lower.down c.in-Ok.ensures.0 c.in-Ok-lower.ensures.0 c.offer_all.new.up c.offer_all.new.down r.0 r.1 r.2 r.3

pub returns-in-Err-close : goal.returns-in-Err-close
returns-in-Err-close g c = subst (λ (v : Vector). IsInsertRefusal g.T.Scalar.HALF c.args.limit (length v) c.args.rows.now v c.in-Err-close.refusal) (c.in-Ok-offer_all.ensures.0.last ∙ c.in-Ok.ensures.0) c.in-Err-close.ensures

pub returns-in-Ok-close : goal.returns-in-Ok-close
returns-in-Ok-close g c =
    let r = c.in-Ok-offer_all.ensures in
    let k = c.in-Ok-close.ensures in
    lists_of c.args.limit c.args.rows.now c.args.row.now c.close.new.up c.close.new.down _ _ (k.2 ∙ r.0.last ∙ c.in-Ok.ensures.0) (k.3 ∙ r.1.last ∙ c.in-Ok-lower.ensures.0) k.0 k.1
    (ap (λ (s : SideLists). s.elements) c.up-3.view_is) (ap (λ (s : SideLists). s.elements) c.down-2.view_is)
