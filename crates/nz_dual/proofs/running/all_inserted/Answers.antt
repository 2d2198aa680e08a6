use Rattle.std.proofs.Common.{◌≡◌, ◌<◌, ◌≤◌, ◌+◌, ◌++◌, ◌∷◌, [], ℕ, inl, length, arith, refl, sym, ◌∙◌, subst}
use Rattle.nz_spec.specs.Covers.{vectors_at}
use Rattle.nz_spec.specs.Order.{ListsOnce}
use Rattle.nz_dual.specs.DualStages.{IsElement, IsReversedElement, IsInsertRefusal}
use Rattle.nz_dual.specs.Runs.{AreOrderedStages, AreNotCrowded}
use Rattle.nz_dual.specs.Refusals.{IsRowOf}
use Rattle.nz_dual.proofs.CrowdLemmas as crowds
use Rattle.nz_dual.proofs.InsertionLemmas as inserting
use Rattle.nz_dual.proofs.RefusalLemmas.{without_number, never_stopped, insert_refused}
use Rattle.nz_dual.proofs.RunLemmas.{left_refused}
use Rattle.nz_dual.proofs.running.all_inserted.Goals as goal

pub returns-in-Err : goal.returns-in-Err
returns-in-Err g c =
    let w = length c.args.simplex.now.places in
    let chosen = vectors_at c.args.rows.now c.args.simplex.now.places in
    let rays = c.args.simplex.now.rays in
    let others = c.args.others.now in
    let h = g.T.Scalar.HALF in
    let long = inserting.chosen_length c.args.rows.now c.args.simplex.now.places in
    let pt = inserting.simplex_pointed c.args.rows.now rays c.args.simplex.now.places c.requires.simplex in
    left_refused (AreOrderedStages w (chosen ++ others)) (IsRowOf h c.args.limit w chosen rays others) c.args.told_before 0 _ _ (inserting.at_start w chosen others long c.requires.wide pt c.args.told_before _)
    c.in-Err.refusal c.left.result (without_number h c.args.limit w chosen rays others 0) (never_stopped h c.args.limit w chosen rays others 0) (crowds.none_before h c.args.limit w chosen rays others) (inl (refl, c.in-Err.ensures.refusal)) c.left.ensures

pub returns-in-Err-tell_stage : goal.returns-in-Err-tell_stage
returns-in-Err-tell_stage g c =
    let w = length c.args.simplex.now.places in
    let chosen = vectors_at c.args.rows.now c.args.simplex.now.places in
    let rays = c.args.simplex.now.rays in
    let others = c.args.others.now in
    let h = g.T.Scalar.HALF in
    let long = inserting.chosen_length c.args.rows.now c.args.simplex.now.places in
    let pt = inserting.simplex_pointed c.args.rows.now rays c.args.simplex.now.places c.requires.simplex in
    inserting.stage_stopped w chosen others long c.requires.wide pt c.args.told_before 0 c.in-Ok.stage.width (length c.in-Ok.stage.list) c.in-Ok.stage.rows _ _ (inserting.at_start w chosen others long c.requires.wide pt c.args.told_before _) (omega arith)
    (inserting.rows_at_start c.in-Ok.stage.rows chosen others c.in-Ok.ensures.rows.1) c.in-Ok.ensures.rows.0 c.in-Err-tell_stage.ensures.number (IsRowOf h c.args.limit w chosen rays others) _ c.in-Err-tell_stage.refusal c.in-Err-tell_stage.ensures.told

pub loop-place-init : goal.loop-place-init
loop-place-init g c =
    let w = length c.args.simplex.now.places in
    let chosen = vectors_at c.args.rows.now c.args.simplex.now.places in
    let rays = c.args.simplex.now.rays in
    let others = c.args.others.now in
    let h = g.T.Scalar.HALF in
    let long = inserting.chosen_length c.args.rows.now c.args.simplex.now.places in
    let pt = inserting.simplex_pointed c.args.rows.now rays c.args.simplex.now.places c.requires.simplex in
    record {
      same_width = c.in-Ok.ensures.rows.0;
      rows = inserting.rows_at_start c.in-Ok.stage.rows chosen others c.in-Ok.ensures.rows.1;
      within = c.in-Ok.ensures.within;
      not_crowded = crowds.first_passed h c.args.limit w chosen rays others c.in-Ok.ensures.candidates;
      passed = inserting.stage_passed w chosen others long c.requires.wide pt c.args.told_before 0 c.in-Ok.stage.width (length c.in-Ok.stage.list) c.in-Ok.stage.rows _ _ (inserting.at_start w chosen others long c.requires.wide pt c.args.told_before _) (omega arith)
          (inserting.rows_at_start c.in-Ok.stage.rows chosen others c.in-Ok.ensures.rows.1) c.in-Ok.ensures.rows.0 c.in-Ok-tell_stage.ensures.number _ c.in-Ok-tell_stage.ensures.told;
    }

pub insert-requires : goal.insert-requires
insert-requires g c =
    let w = length c.args.simplex.now.places in
    let chosen = vectors_at c.args.rows.now c.args.simplex.now.places in
    let rays = c.args.simplex.now.rays in
    let others = c.args.others.now in
    let h = g.T.Scalar.HALF in
    let long = inserting.chosen_length c.args.rows.now c.args.simplex.now.places in
    let pt = inserting.simplex_pointed c.args.rows.now rays c.args.simplex.now.places c.requires.simplex in
    let place = c.loop-place.place in
    let l : c.loop-place.place < length c.args.others.now = omega (arith, c.len-place-end.ensures, c.loop-place-test.true) in
    let inv = c.loop-place.invariant in
    inserting.other_wide w chosen others place c.at.result.now c.requires.wide l c.at.ensures ∙ sym inv.same_width

pub returns-in-Err-insert : goal.returns-in-Err-insert
returns-in-Err-insert g c =
    let w = length c.args.simplex.now.places in
    let chosen = vectors_at c.args.rows.now c.args.simplex.now.places in
    let rays = c.args.simplex.now.rays in
    let others = c.args.others.now in
    let h = g.T.Scalar.HALF in
    let long = inserting.chosen_length c.args.rows.now c.args.simplex.now.places in
    let pt = inserting.simplex_pointed c.args.rows.now rays c.args.simplex.now.places c.requires.simplex in
    let place = c.loop-place.place in
    let l : c.loop-place.place < length c.args.others.now = omega (arith, c.len-place-end.ensures, c.loop-place-test.true) in
    let inv = c.loop-place.invariant in
    left_refused (AreOrderedStages w (chosen ++ others)) (IsRowOf h c.args.limit w chosen rays others) c.args.told_before (place + 1) _ _ inv.passed
    c.in-Err-insert.refusal c.left-in-Err-insert.result (without_number h c.args.limit w chosen rays others (place + 1)) (never_stopped h c.args.limit w chosen rays others (place + 1)) inv.not_crowded
    (insert_refused h c.args.limit w chosen rays others place c.loop-place.stage.rows c.at.result.now c.in-Err-insert.refusal l inv.rows c.at.ensures (subst (λ (n : ℕ). IsInsertRefusal h c.args.limit n c.loop-place.stage.rows c.at.result.now c.in-Err-insert.refusal) inv.same_width c.in-Err-insert.ensures.refusal))
    c.left-in-Err-insert.ensures

pub returns-in-Err-tell_stage-2 : goal.returns-in-Err-tell_stage-2
returns-in-Err-tell_stage-2 g c =
    let w = length c.args.simplex.now.places in
    let chosen = vectors_at c.args.rows.now c.args.simplex.now.places in
    let rays = c.args.simplex.now.rays in
    let others = c.args.others.now in
    let h = g.T.Scalar.HALF in
    let long = inserting.chosen_length c.args.rows.now c.args.simplex.now.places in
    let pt = inserting.simplex_pointed c.args.rows.now rays c.args.simplex.now.places c.requires.simplex in
    let place = c.loop-place.place in
    let l : c.loop-place.place < length c.args.others.now = omega (arith, c.len-place-end.ensures, c.loop-place-test.true) in
    let inv = c.loop-place.invariant in
    let is = inserting.rows_more c.loop-place.stage.rows c.insert.new.self.rows chosen others place c.at.result.now l inv.rows c.at.ensures c.in-Ok-insert.ensures.rows.1 in
    let same : c.insert.new.self.width ≡ w = c.in-Ok-insert.ensures.rows.0 ∙ inv.same_width in
    let m : c.loop-place.place + 1 ≤ length c.args.others.now = omega (arith, l) in
    inserting.stage_stopped w chosen others long c.requires.wide pt c.args.told_before (place + 1) c.insert.new.self.width (length c.insert.new.self.list) c.insert.new.self.rows _ _ inv.passed m is same c.in-Err-tell_stage-2.ensures.number (IsRowOf h c.args.limit w chosen rays others) _ c.in-Err-tell_stage-2.refusal c.in-Err-tell_stage-2.ensures.told

pub loop-place-preserved : goal.loop-place-preserved
loop-place-preserved g c =
    let w = length c.args.simplex.now.places in
    let chosen = vectors_at c.args.rows.now c.args.simplex.now.places in
    let rays = c.args.simplex.now.rays in
    let others = c.args.others.now in
    let h = g.T.Scalar.HALF in
    let long = inserting.chosen_length c.args.rows.now c.args.simplex.now.places in
    let pt = inserting.simplex_pointed c.args.rows.now rays c.args.simplex.now.places c.requires.simplex in
    let place = c.loop-place.place in
    let l : c.loop-place.place < length c.args.others.now = omega (arith, c.len-place-end.ensures, c.loop-place-test.true) in
    let inv = c.loop-place.invariant in
    let is = inserting.rows_more c.loop-place.stage.rows c.insert.new.self.rows chosen others place c.at.result.now l inv.rows c.at.ensures c.in-Ok-insert.ensures.rows.1 in
    let same : c.insert.new.self.width ≡ w = c.in-Ok-insert.ensures.rows.0 ∙ inv.same_width in
    let m : c.loop-place.place + 1 ≤ length c.args.others.now = omega (arith, l) in
    record {
      same_width = same;
      rows = is;
      within = c.in-Ok-insert.ensures.within.0;
      not_crowded = crowds.next_passed h c.args.limit w chosen rays others place c.loop-place.stage.rows c.at.result.now c.insert.new.self.list c.insert.new.self.reversed l inv.rows c.at.ensures
          (subst (λ (n : ℕ). ListsOnce (IsElement n (c.loop-place.stage.rows ++ c.at.result.now ∷ [])) c.insert.new.self.list) inv.same_width c.in-Ok-insert.ensures.list)
          (subst (λ (n : ℕ). ListsOnce (IsReversedElement n c.loop-place.stage.rows c.at.result.now) c.insert.new.self.reversed) inv.same_width c.in-Ok-insert.ensures.reversed) c.in-Ok-insert.ensures.within inv.not_crowded;
      passed = inserting.stage_passed w chosen others long c.requires.wide pt c.args.told_before (place + 1) c.insert.new.self.width (length c.insert.new.self.list) c.insert.new.self.rows _ _ inv.passed m is same c.in-Ok-tell_stage-2.ensures.number _ c.in-Ok-tell_stage-2.ensures.told;
    }

pub returns : goal.returns
returns g c =
    let w = length c.args.simplex.now.places in
    let chosen = vectors_at c.args.rows.now c.args.simplex.now.places in
    let rays = c.args.simplex.now.rays in
    let others = c.args.others.now in
    let h = g.T.Scalar.HALF in
    let long = inserting.chosen_length c.args.rows.now c.args.simplex.now.places in
    let pt = inserting.simplex_pointed c.args.rows.now rays c.args.simplex.now.places c.requires.simplex in
    let inv = c.loop-place.invariant in
    let l : length c.args.others.now ≤ c.loop-place.place = omega (arith, c.len-place-end.ensures, c.loop-place-test.false) in (
      inv.same_width,
      inserting.rows_at_end c.loop-place.stage.rows chosen others c.loop-place.place l inv.rows,
      inserting.all_done w chosen others long c.requires.wide pt c.args.told_before c.loop-place.place _ _ (omega (arith, l, c.len-place-end.ensures, c.loop-place.auto.place-end)) inv.passed,
      inv.within,
      crowds.all_passed h c.args.limit w chosen rays others (subst (AreNotCrowded (IsRowOf h c.args.limit w chosen rays others)) (omega (arith, l, c.len-place-end.ensures, c.loop-place.auto.place-end)) inv.not_crowded),
    )
