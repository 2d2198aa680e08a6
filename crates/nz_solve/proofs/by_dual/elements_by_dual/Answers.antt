use Rattle.std.proofs.Common.{◌∙◌, ◌+◌, ◌-◌, max, ap₂, inr}
use Rattle.nz_solve.proofs.ToldLemmas.{some_of_all}
use Rattle.nz_input.specs.declared.kind.Mode.TheVariants.{Dual}
use Rattle.nz_solve.proofs.FrameLists.{as_many}
use Rattle.nz_solve.proofs.RangeLemmas.{reckon_refused}
use Rattle.nz_solve.proofs.DualLemmas.{rows_at, simplex_at, wide_at, positive_at, listed_at, told_at, left_at, refused_at, list_refused_at, dual_not_primal}
use Rattle.nz_solve.proofs.by_dual.elements_by_dual.Goals as goal

pub dual-requires-clause-wide : goal.dual-requires-clause-wide
dual-requires-clause-wide g c = rows_at c.args.system.now.system c.args.frame.now.base c.args.frame.now.rows c.kept.ensures.system c.requires.frame c.args.simplex.now.places c.args.simplex.now.rays c.requires.simplex

pub dual-requires-clause-simplex : goal.dual-requires-clause-simplex
dual-requires-clause-simplex g c = simplex_at c.args.system.now.system c.args.frame.now.base c.args.frame.now.rows c.kept.ensures.system c.requires.frame c.args.simplex.now.places c.args.simplex.now.rays c.requires.simplex

pub returns-in-Err-clause-elements : goal.returns-in-Err-clause-elements
returns-in-Err-clause-elements g c = refused_at c.args.system.now.system c.args.frame.now.base c.args.frame.now.rows c.kept.ensures.system c.requires.frame c.args.simplex.now.places c.args.simplex.now.rays c.requires.simplex g.T.Scalar.HALF g.T.Scalar.fits g.met.T.Scalar.room c.requires.swept c.args.limit c.args.told_before _ _ c.in-Err.refusal c.unfinished.result c.in-Err.ensures.run c.unfinished.ensures

pub all_vectors-requires : goal.all_vectors-requires
all_vectors-requires g c = wide_at c.args.system.now.system c.args.frame.now.base c.args.frame.now.rows c.kept.ensures.system c.requires.frame c.args.simplex.now.places c.args.simplex.now.rays c.requires.simplex c.in-Ok.found c.in-Ok.ensures.run.0

pub returns-in-Err-all_vectors-clause-elements : goal.returns-in-Err-all_vectors-clause-elements
returns-in-Err-all_vectors-clause-elements g c = reckon_refused Dual c.args.system.now.system g.T.Scalar.HALF c.args.limit c.args.told_before c.in-Ok-told_after.told _ _ (inr (left_at c.args.system.now.system c.args.frame.now.base c.args.frame.now.rows c.kept.ensures.system c.requires.frame c.args.simplex.now.places c.args.simplex.now.rays c.requires.simplex g.T.Scalar.HALF c.args.limit c.args.told_before c.in-Ok-told_after.told _ _ c.in-Ok.ensures.run.1 (c.in-Ok-told_after.ensures ∙ ap₂ (λ m k. max c.args.told_before (m + 1 - k)) c.len.ensures c.len-2.ensures) c.in-Ok.ensures.not_crowded)) c.in-Err-all_vectors.refusal c.counted.result (λ e. list_refused_at c.args.system.now.system c.args.frame.now.base c.args.frame.now.rows c.kept.ensures.system c.requires.frame c.args.simplex.now.places c.args.simplex.now.rays c.requires.simplex g.T.Scalar.HALF g.T.Scalar.fits g.met.T.Scalar.room c.requires.swept c.in-Ok.found c.in-Ok.ensures.run.0 (c.in-Err-all_vectors.ensures e)) c.counted.ensures

pub returns-in-Ok-extreme_where-clause-elements : goal.returns-in-Ok-extreme_where-clause-elements
returns-in-Ok-extreme_where-clause-elements g c = (
  record {
    positive = positive_at c.args.system.now.system c.args.frame.now.base c.args.frame.now.rows c.kept.ensures.system c.requires.frame c.args.simplex.now.places c.args.simplex.now.rays c.requires.simplex;
    lists = listed_at c.args.system.now.system c.args.frame.now.base c.args.frame.now.rows c.kept.ensures.system c.requires.frame c.args.simplex.now.places c.args.simplex.now.rays c.requires.simplex c.in-Ok.found c.in-Ok-all_vectors.list c.in-Ok.ensures.run.0 c.in-Ok-all_vectors.ensures;
    are_extreme = c.in-Ok-extreme_where.ensures.extreme;
    cover = λ t. absurd (dual_not_primal c.args.system.now.mode c.requires.dual (c.kept.ensures.askable.cover t));
  },
  told_at c.args.system.now.system c.args.frame.now.base c.args.frame.now.rows c.kept.ensures.system c.requires.frame c.args.simplex.now.places c.args.simplex.now.rays c.requires.simplex c.args.told_before _ _ c.in-Ok.ensures.run.1,
)

pub returns-in-Ok-extreme_where-clause-within : goal.returns-in-Ok-extreme_where-clause-within
returns-in-Ok-extreme_where-clause-within g c = as_many c.args.frame.now.base c.args.limit c.in-Ok.found c.in-Ok-all_vectors.list c.in-Ok-all_vectors.ensures c.in-Ok.ensures.within

pub returns-clause-elements : goal.returns-clause-elements
returns-clause-elements g c = reckon_refused Dual c.args.system.now.system g.T.Scalar.HALF c.args.limit c.args.told_before c.in-Ok-told_after.told _ _ (inr (left_at c.args.system.now.system c.args.frame.now.base c.args.frame.now.rows c.kept.ensures.system c.requires.frame c.args.simplex.now.places c.args.simplex.now.rays c.requires.simplex g.T.Scalar.HALF c.args.limit c.args.told_before c.in-Ok-told_after.told _ _ c.in-Ok.ensures.run.1 (c.in-Ok-told_after.ensures ∙ ap₂ (λ m k. max c.args.told_before (m + 1 - k)) c.len.ensures c.len-2.ensures) c.in-Ok.ensures.not_crowded)) c.in-Err-extreme_where.refusal c.counted-in-Err-extreme_where.result (λ e. c.in-Err-extreme_where.ensures.cause e) c.counted-in-Err-extreme_where.ensures

pub returns-in-Err-told_after-clause-elements : goal.returns-in-Err-told_after-clause-elements
returns-in-Err-told_after-clause-elements g c = some_of_all Dual c.args.system.now.system c.args.told_before _ _ (told_at c.args.system.now.system c.args.frame.now.base c.args.frame.now.rows c.kept.ensures.system c.requires.frame c.args.simplex.now.places c.args.simplex.now.rays c.requires.simplex c.args.told_before _ _ c.in-Ok.ensures.run.1)

pub returns-in-Ok-extreme_where-clause-told : goal.returns-in-Ok-extreme_where-clause-told
returns-in-Ok-extreme_where-clause-told g c = left_at c.args.system.now.system c.args.frame.now.base c.args.frame.now.rows c.kept.ensures.system c.requires.frame c.args.simplex.now.places c.args.simplex.now.rays c.requires.simplex g.T.Scalar.HALF c.args.limit c.args.told_before c.in-Ok-told_after.told _ _ c.in-Ok.ensures.run.1 (c.in-Ok-told_after.ensures ∙ ap₂ (λ m k. max c.args.told_before (m + 1 - k)) c.len.ensures c.len-2.ensures) c.in-Ok.ensures.not_crowded
