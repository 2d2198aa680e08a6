use Rattle.std.proofs.Common.{◌<◌, ◌≤◌, ◌+◌, length, sym, subst, ℕ, Ok, Err, arith}
use Rattle.std.specs.List.{AllByRecursion as Each}
use Rattle.nz_spec.specs.Vectors.{HasWidth}
use Rattle.nz_pointed.specs.Pointed.{IsTooLarge}
use Rattle.nz_rays.proofs.StartLemmas.{simplex_at_width}
use Rattle.nz_cover.specs.Placed.{ArePlacedUpTo}
use Rattle.nz_cover.proofs.OrderLemmas.{placeable_pointed}
use Rattle.nz_cover.proofs.PlacedLemmas.{loop_start, loop_end, width_here}
use Rattle.nz_cover.proofs.ToldLemmas.{passed_none, refused, no_range, so_far, first_passed, next_passed, all_passed}
use Rattle.nz_cover.proofs.covering.all_placed.Goals as goal

pub first_rows-requires-clause-widths : goal.first_rows-requires-clause-widths
first_rows-requires-clause-widths g c = c.requires.placeable.widths

pub first_rows-requires-clause-pointed : goal.first_rows-requires-clause-pointed
first_rows-requires-clause-pointed g c = placeable_pointed c.args.width c.args.rays.now c.requires.placeable

pub returns-in-Err : goal.returns-in-Err
returns-in-Err g c = refused g.T.Scalar.HALF c.args.width c.args.rays.now c.args.told_before 0 _ _ c.in-Err.refusal c.left.result (passed_none c.args.width c.args.rays.now c.args.told_before _ c.requires.placeable c.requires.some) c.in-Err.ensures c.left.ensures

pub begun-requires : goal.begun-requires
begun-requires g c = simplex_at_width c.args.width c.args.rays.now c.in-Ok.simplex.rays c.in-Ok.simplex.places c.in-Ok.ensures

pub returns-in-Err-begun : goal.returns-in-Err-begun
returns-in-Err-begun g c = refused g.T.Scalar.HALF c.args.width c.args.rays.now c.args.told_before 0 _ _ c.in-Err-begun.refusal c.left-in-Err-begun.result (passed_none c.args.width c.args.rays.now c.args.told_before _ c.requires.placeable c.requires.some) (λ e. no_range c.in-Err-begun.refusal c.in-Err-begun.ensures.err e) c.left-in-Err-begun.ensures

pub returns-in-Err-pass_stage : goal.returns-in-Err-pass_stage
returns-in-Err-pass_stage g c = first_passed g.T.Scalar.HALF c.args.width c.args.rays.now c.args.told_before c.in-Ok.simplex.places c.in-Ok-begun.placing.placed c.in-Ok.simplex.rays c.in-Ok-begun.placing.cells.items c.in-Ok-begun.placing.facets _ _ (Err c.in-Err-pass_stage.refusal) c.requires.placeable c.requires.some c.in-Ok.ensures c.in-Ok-begun.ensures.ok.0
    (loop_start c.args.width c.args.rays.now c.in-Ok.simplex.places c.in-Ok-begun.placing.placed c.in-Ok.simplex.rays c.in-Ok-begun.placing.cells.items c.in-Ok-begun.placing.facets c.in-Ok.ensures c.in-Ok-begun.ensures.ok.0 c.in-Ok-begun.ensures.ok.1) c.in-Err-pass_stage.ensures.description c.in-Err-pass_stage.ensures.passes

pub loop-place-init : goal.loop-place-init
loop-place-init g c = first_passed g.T.Scalar.HALF c.args.width c.args.rays.now c.args.told_before c.in-Ok.simplex.places c.in-Ok-begun.placing.placed c.in-Ok.simplex.rays c.in-Ok-begun.placing.cells.items c.in-Ok-begun.placing.facets _ _ (Ok c.in-Ok-pass_stage.passed) c.requires.placeable c.requires.some c.in-Ok.ensures c.in-Ok-begun.ensures.ok.0
    (loop_start c.args.width c.args.rays.now c.in-Ok.simplex.places c.in-Ok-begun.placing.placed c.in-Ok.simplex.rays c.in-Ok-begun.placing.cells.items c.in-Ok-begun.placing.facets c.in-Ok.ensures c.in-Ok-begun.ensures.ok.0 c.in-Ok-begun.ensures.ok.1) c.in-Ok-pass_stage.ensures.description c.in-Ok-pass_stage.ensures.passes

pub pass-requires-clause-widths : goal.pass-requires-clause-widths
pass-requires-clause-widths g c =
    let within : c.loop-place.place < length c.args.rays.now = omega (arith, c.loop-place-test.true, c.len-place-end.ensures) in
    subst (λ (n : ℕ). Each (HasWidth n) c.args.rays.now) (sym (width_here c.args.width c.loop-place.place c.args.rays.now c.requires.placeable.widths within)) c.requires.placeable.widths

pub pass-requires-clause-placed : goal.pass-requires-clause-placed
pass-requires-clause-placed g c =
    let within : c.loop-place.place < length c.args.rays.now = omega (arith, c.loop-place-test.true, c.len-place-end.ensures) in
    subst (λ (n : ℕ). ArePlacedUpTo n c.args.rays.now c.loop-place.place c.loop-place.placing.placed c.loop-place.placing.cells.items c.loop-place.placing.facets) (sym (width_here c.args.width c.loop-place.place c.args.rays.now c.requires.placeable.widths within)) c.loop-place.invariant.0

pub returns-in-Err-pass : goal.returns-in-Err-pass
returns-in-Err-pass g c =
    let within : c.loop-place.place < length c.args.rays.now = omega (arith, c.loop-place-test.true, c.len-place-end.ensures) in
    refused g.T.Scalar.HALF c.args.width c.args.rays.now c.args.told_before c.loop-place.passed _ _ c.in-Err-pass.refusal c.left-in-Err-pass.result (so_far c.args.width c.args.rays.now c.args.told_before c.loop-place.place c.loop-place.passed c.loop-place.placing.placed _ _ c.loop-place.invariant.1)
    (λ e. subst (λ (n : ℕ). IsTooLarge g.T.Scalar.HALF n c.args.rays.now) (width_here c.args.width c.loop-place.place c.args.rays.now c.requires.placeable.widths within) (c.in-Err-pass.ensures e)) c.left-in-Err-pass.ensures

pub returns-in-Err-pass_if_new : goal.returns-in-Err-pass_if_new
returns-in-Err-pass_if_new g c =
    let within : c.loop-place.place < length c.args.rays.now = omega (arith, c.loop-place-test.true, c.len-place-end.ensures) in
    let placed = subst (λ (n : ℕ). ArePlacedUpTo n c.args.rays.now (c.loop-place.place + 1) c.pass.new.self.placed c.pass.new.self.cells.items c.pass.new.self.facets) (width_here c.args.width c.loop-place.place c.args.rays.now c.requires.placeable.widths within) c.in-Ok-pass.ensures.1 in
    next_passed g.T.Scalar.HALF c.args.width c.args.rays.now c.args.told_before c.loop-place.place c.loop-place.passed c.loop-place.placing.placed c.pass.new.self.placed c.pass.new.self.cells.items c.pass.new.self.facets _ _ _ c.in-Ok-pass.is_new (Err c.in-Err-pass_if_new.refusal) c.requires.placeable.widths within c.in-Ok-pass.ensures.0 placed c.in-Err-pass_if_new.ensures.description c.loop-place.invariant.1 c.in-Err-pass_if_new.ensures.passes

pub loop-place-preserved : goal.loop-place-preserved
loop-place-preserved g c =
    let within : c.loop-place.place < length c.args.rays.now = omega (arith, c.loop-place-test.true, c.len-place-end.ensures) in
    let placed = subst (λ (n : ℕ). ArePlacedUpTo n c.args.rays.now (c.loop-place.place + 1) c.pass.new.self.placed c.pass.new.self.cells.items c.pass.new.self.facets) (width_here c.args.width c.loop-place.place c.args.rays.now c.requires.placeable.widths within) c.in-Ok-pass.ensures.1 in
    next_passed g.T.Scalar.HALF c.args.width c.args.rays.now c.args.told_before c.loop-place.place c.loop-place.passed c.loop-place.placing.placed c.pass.new.self.placed c.pass.new.self.cells.items c.pass.new.self.facets _ _ _ c.in-Ok-pass.is_new (Ok c.in-Ok-pass_if_new.passed) c.requires.placeable.widths within c.in-Ok-pass.ensures.0 placed c.in-Ok-pass_if_new.ensures.description c.loop-place.invariant.1 c.in-Ok-pass_if_new.ensures.passes

pub returns : goal.returns
returns g c =
    let past : length c.args.rays.now ≤ c.loop-place.place = omega (arith, c.loop-place-test.false, c.len-place-end.ensures) in (
      loop_end c.args.width c.args.rays.now c.loop-place.place c.loop-place.placing.placed c.loop-place.placing.cells.items c.loop-place.placing.facets past c.loop-place.invariant.0,
      all_passed c.args.width c.args.rays.now c.args.told_before c.loop-place.place c.loop-place.passed c.loop-place.placing.placed _ _ past c.loop-place.invariant.1,
    )
