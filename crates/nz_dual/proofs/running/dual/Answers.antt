use Rattle.std.proofs.Common.{◌++◌, length, false, arith}
use Rattle.nz_spec.specs.Vectors.{HasWidth}
use Rattle.nz_spec.specs.Covers.{vectors_at}
use Rattle.nz_spec.specs.Stages.{AreStages}
use Rattle.nz_dual.specs.Runs.{AreOrderedStages}
use Rattle.nz_dual.specs.Refusals.{IsRowOf, IsStageOf}
use Rattle.nz_dual.proofs.CrowdLemmas.{stages_not_crowded, no_stage_crowded}
use Rattle.nz_dual.proofs.OrderLemmas.{each_part}
use Rattle.nz_dual.proofs.RunLemmas.{passed_where, passed_all_where, refused_where, memory_refused}
use Rattle.nz_dual.proofs.WholeLemmas.{stages_of, nothing_yet, last_list}
use Rattle.nz_dual.proofs.running.dual.Goals as goal

pub all_inserted-requires-clause-wide : goal.all_inserted-requires-clause-wide
all_inserted-requires-clause-wide g c = each_part (HasWidth (length c.args.simplex.now.places)) c.in-Ok.ensures c.requires.wide

pub returns-in-Err-clause-run : goal.returns-in-Err-clause-run
returns-in-Err-clause-run g c =
    let w = length c.args.simplex.now.places in
    memory_refused (AreStages w (HasWidth w) c.args.rows.now) (IsStageOf g.T.Scalar.HALF c.args.limit w c.args.rows.now (vectors_at c.args.rows.now c.args.simplex.now.places) c.args.simplex.now.rays) c.args.told_before 0 _ _
    (nothing_yet c.args.rows.now c.args.simplex.now.rays c.args.simplex.now.places c.requires.simplex c.args.told_before _ c.requires.wide) c.from.result c.from.ensures

pub returns-in-Err-all_inserted-clause-run : goal.returns-in-Err-all_inserted-clause-run
returns-in-Err-all_inserted-clause-run g c =
    let w = length c.args.simplex.now.places in
    let rows = c.args.rows.now in
    let chosen = vectors_at c.args.rows.now c.args.simplex.now.places in
    let rays = c.args.simplex.now.rays in
    let S = AreOrderedStages w (chosen ++ c.in-Ok.others) in
    let R = AreStages w (HasWidth w) rows in
    let to = stages_of rows rays c.args.simplex.now.places c.requires.simplex c.in-Ok.others c.in-Ok.ensures in
    refused_where S R to c.args.told_before _ _ (IsRowOf g.T.Scalar.HALF c.args.limit w chosen rays c.in-Ok.others) (IsStageOf g.T.Scalar.HALF c.args.limit w rows chosen rays) (λ i e p. (c.in-Ok.others, (c.in-Ok.ensures, p)))
    (stages_not_crowded g.T.Scalar.HALF c.args.limit w rows chosen rays c.in-Ok.others c.in-Ok.ensures) c.in-Err-all_inserted.refusal c.in-Err-all_inserted.ensures

pub returns-in-Ok-into_sorted-clause-run : goal.returns-in-Ok-into_sorted-clause-run
returns-in-Ok-into_sorted-clause-run g c =
    let w = length c.args.simplex.now.places in
    let rows = c.args.rows.now in
    let chosen = vectors_at c.args.rows.now c.args.simplex.now.places in
    let rays = c.args.simplex.now.rays in
    let S = AreOrderedStages w (chosen ++ c.in-Ok.others) in
    let R = AreStages w (HasWidth w) rows in
    let to = stages_of rows rays c.args.simplex.now.places c.requires.simplex c.in-Ok.others c.in-Ok.ensures in (
      last_list w c.in-Ok-all_inserted.stage.width rows chosen c.in-Ok.others c.in-Ok-all_inserted.stage.rows c.in-Ok-into_sorted.list c.in-Ok.ensures c.in-Ok-all_inserted.ensures.0 c.in-Ok-all_inserted.ensures.1 c.in-Ok-into_sorted.ensures.lists,
      passed_all_where S R to c.args.told_before _ _ c.in-Ok-all_inserted.ensures.2,
    )

pub returns-in-Ok-into_sorted-clause-within : goal.returns-in-Ok-into_sorted-clause-within
returns-in-Ok-into_sorted-clause-within g c = omega (arith, c.in-Ok-into_sorted.ensures.size, c.in-Ok-all_inserted.ensures.3)

pub returns-in-Ok-into_sorted-clause-not_crowded : goal.returns-in-Ok-into_sorted-clause-not_crowded
returns-in-Ok-into_sorted-clause-not_crowded g c = no_stage_crowded g.T.Scalar.HALF c.args.limit (length c.args.simplex.now.places) c.args.rows.now (vectors_at c.args.rows.now c.args.simplex.now.places) c.args.simplex.now.rays c.in-Ok.others c.in-Ok.ensures c.in-Ok-all_inserted.ensures.4

pub returns-clause-run : goal.returns-clause-run
returns-clause-run g c =
    let w = length c.args.simplex.now.places in
    let rows = c.args.rows.now in
    let chosen = vectors_at c.args.rows.now c.args.simplex.now.places in
    let rays = c.args.simplex.now.rays in
    let S = AreOrderedStages w (chosen ++ c.in-Ok.others) in
    let R = AreStages w (HasWidth w) rows in
    let to = stages_of rows rays c.args.simplex.now.places c.requires.simplex c.in-Ok.others c.in-Ok.ensures in
    let all = c.in-Ok-all_inserted.ensures.2 in
    memory_refused R (IsStageOf g.T.Scalar.HALF c.args.limit w rows chosen rays) c.args.told_before all.passed _ _ (passed_where S R to c.args.told_before _ _ all.passed false all.telling) c.from-in-Err-into_sorted.result c.from-in-Err-into_sorted.ensures
