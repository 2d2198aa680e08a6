use Rattle.std.proofs.Common.{◌∙◌, length, refl, sym}
use Rattle.std.specs.List.{AllByRecursion as Each}
use Rattle.std.specs.Prelude.{◌≡◌, Contains}
use Rattle.nz_spec.specs.Vectors.{HasWidth}
use Rattle.nz_dual.specs.Sides.{IsSide, Keeps, Handles, HasGrown}
use Rattle.nz_dual.specs.Closures.{IsOfferedRefusal}
use Rattle.nz_dual.proofs.SideLemmas.{moved}
use Rattle.nz_dual.proofs.ClosureLemmas.{complete_at_end, part_next, handles_sums_next, all_keep_up, all_keep_down, all_wide, side_width, no_sums, close_refused, sums_refused}
use Rattle.nz_dual.proofs.closing.close.Goals as goal

pub sums_of-requires : goal.sums_of-requires
sums_of-requires g c = (c.args.limit, c.degrees.invariant.part)

pub offer_all-requires-clause-rows_wide : goal.offer_all-requires-clause-rows_wide
offer_all-requires-clause-rows_wide g c = moved (λ u d. Each (HasWidth (length u.last)) c.args.rows.now) c.sums_of.new.up c.degrees.up c.sums_of.new.down c.degrees.down (sym c.sums_of.ensures.same.0) (sym c.sums_of.ensures.same.1) (c.degrees.invariant.part.stage.rows_wide)

pub offer_all-requires-clause-width : goal.offer_all-requires-clause-width
offer_all-requires-clause-width g c = moved (λ u d. length d.last ≡ length u.last) c.sums_of.new.up c.degrees.up c.sums_of.new.down c.degrees.down (sym c.sums_of.ensures.same.0) (sym c.sums_of.ensures.same.1) (side_width c.args.limit c.args.rows.now c.degrees.up c.degrees.down c.degrees.invariant.part)

pub offer_all-requires-clause-widths : goal.offer_all-requires-clause-widths
offer_all-requires-clause-widths g c = moved (λ u d. Each (HasWidth (length u.last)) c.in-Ok.sums) c.sums_of.new.up c.degrees.up c.sums_of.new.down c.degrees.down (sym c.sums_of.ensures.same.0) (sym c.sums_of.ensures.same.1) (all_wide c.args.limit c.args.rows.now c.degrees.up c.degrees.down c.degrees.invariant.part c.degrees.last c.in-Some.degree c.degrees.invariant.sums c.in-Some.ensures c.in-Ok.sums c.in-Ok.ensures.sums)

pub offer_all-requires-clause-up : goal.offer_all-requires-clause-up
offer_all-requires-clause-up g c = moved (λ u d. IsSide c.args.limit c.args.rows.now u) c.sums_of.new.up c.degrees.up c.sums_of.new.down c.degrees.down (sym c.sums_of.ensures.same.0) (sym c.sums_of.ensures.same.1) (c.degrees.invariant.part.up_side)

pub offer_all-requires-clause-down : goal.offer_all-requires-clause-down
offer_all-requires-clause-down g c = moved (λ u d. IsSide c.args.limit c.args.rows.now d) c.sums_of.new.up c.degrees.up c.sums_of.new.down c.degrees.down (sym c.sums_of.ensures.same.0) (sym c.sums_of.ensures.same.1) (c.degrees.invariant.part.down_side)

pub offer_all-requires-clause-keeps_up : goal.offer_all-requires-clause-keeps_up
offer_all-requires-clause-keeps_up g c = moved (λ u d. Each (Keeps c.args.rows.now u.last u.elements) c.in-Ok.sums) c.sums_of.new.up c.degrees.up c.sums_of.new.down c.degrees.down (sym c.sums_of.ensures.same.0) (sym c.sums_of.ensures.same.1) (all_keep_up c.args.limit c.args.rows.now c.degrees.up c.degrees.down c.degrees.invariant.part c.degrees.last c.in-Some.degree c.degrees.invariant.sums c.in-Some.ensures c.in-Ok.sums c.in-Ok.ensures.sums)

pub offer_all-requires-clause-keeps_down : goal.offer_all-requires-clause-keeps_down
offer_all-requires-clause-keeps_down g c = moved (λ u d. Each (Keeps c.args.rows.now d.last d.elements) c.in-Ok.sums) c.sums_of.new.up c.degrees.up c.sums_of.new.down c.degrees.down (sym c.sums_of.ensures.same.0) (sym c.sums_of.ensures.same.1) (all_keep_down c.args.limit c.args.rows.now c.degrees.up c.degrees.down c.degrees.invariant.part c.degrees.last c.in-Some.degree c.degrees.invariant.sums c.in-Some.ensures c.in-Ok.sums c.in-Ok.ensures.sums)

pub degrees-init : goal.degrees-init
degrees-init g c = record { part = c.requires; up_last = refl; down_last = refl; sums = no_sums c.args.limit c.args.rows.now c.args.up.now c.args.down.now c.requires }

pub degrees-preserved : goal.degrees-preserved
degrees-preserved g c =
    let r = moved (λ u d. HasGrown c.args.limit c.args.rows.now u c.offer_all.new.up × HasGrown c.args.limit c.args.rows.now d c.offer_all.new.down × Each (Handles c.args.rows.now u.last c.offer_all.new.up.elements) c.in-Ok.sums × Each (Handles c.args.rows.now d.last c.offer_all.new.down.elements) c.in-Ok.sums) c.degrees.up c.sums_of.new.up c.degrees.down c.sums_of.new.down c.sums_of.ensures.same.0 c.sums_of.ensures.same.1 (c.in-Ok-offer_all.ensures) in
    record {
      part = part_next c.args.limit c.args.rows.now c.degrees.up c.degrees.down c.offer_all.new.up c.offer_all.new.down c.degrees.invariant.part r.0 r.1;
      up_last = r.0.last ∙ c.degrees.invariant.up_last;
      down_last = r.1.last ∙ c.degrees.invariant.down_last;
      sums = handles_sums_next c.args.limit c.args.rows.now c.degrees.up c.degrees.down c.offer_all.new.up c.offer_all.new.down c.degrees.invariant.part c.degrees.last c.in-Some.degree c.degrees.invariant.sums c.in-Some.ensures c.in-Ok.sums c.in-Ok.ensures.sums r.0 r.1 r.2 r.3;
    }

pub returns-in-Err : goal.returns-in-Err
returns-in-Err g c = sums_refused g.T.Scalar.HALF c.args.limit c.args.rows.now c.degrees.up c.degrees.down c.degrees.invariant.part c.args.up.now.last c.degrees.invariant.up_last c.in-Err.refusal c.work_of.result c.in-Err.ensures.sums c.work_of.ensures

pub returns-in-Err-offer_all : goal.returns-in-Err-offer_all
returns-in-Err-offer_all g c = close_refused g.T.Scalar.HALF c.args.limit c.args.rows.now c.degrees.up c.degrees.down c.degrees.invariant.part c.degrees.last c.in-Some.degree c.degrees.invariant.sums c.in-Some.ensures c.in-Ok.sums c.in-Ok.ensures.sums c.args.up.now.last c.degrees.invariant.up_last c.in-Err-offer_all.refusal (moved (λ u d. IsOfferedRefusal g.T.Scalar.HALF c.args.limit c.args.rows.now u.last d.last (Contains c.in-Ok.sums) c.in-Err-offer_all.refusal) c.degrees.up c.sums_of.new.up c.degrees.down c.sums_of.new.down c.sums_of.ensures.same.0 c.sums_of.ensures.same.1 (c.in-Err-offer_all.ensures))

pub returns-in-None : goal.returns-in-None
returns-in-None g c =
    let b = complete_at_end c.args.limit c.args.rows.now c.degrees.up c.degrees.down c.degrees.invariant.part c.degrees.last c.degrees.invariant.sums c.in-None.ensures in
    (b.0, b.1, c.degrees.invariant.up_last, c.degrees.invariant.down_last)
