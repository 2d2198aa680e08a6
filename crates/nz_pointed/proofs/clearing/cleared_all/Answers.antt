use Rattle.std.proofs.Common.{◌+◌, ap, ◌∙◌}
use Rattle.nz_pointed.specs.Elimination.{IsCleared}
use Rattle.std.proofs.Common.{◌∷◌, []}
use Rattle.nz_spec.proofs.ListLaws.{contains_here, contains_there}
use Rattle.nz_range.proofs.Causes.{large_within}
use Rattle.nz_pointed.proofs.RangeLemmas.{contains_at}
use Rattle.nz_pointed.proofs.ListLemmas.{zip_more}
use Rattle.nz_pointed.proofs.clearing.cleared_all.Goals as goal

pub loop-place-preserved : goal.loop-place-preserved
loop-place-preserved g c = (
  c.push_reserved.ensures.len ∙ ap (λ n. n + 1) c.loop-place.invariant.0,
  c.push_reserved.ensures.capacity ∙ c.loop-place.invariant.1,
  zip_more (IsCleared c.args.form.now c.args.by.now) c.args.rows.now c.loop-place.all.items _ c.loop-place.place _ _ c.loop-place-test.true c.index-rows-place.is c.loop-place.invariant.2 c.in-Ok-cleared.ensures c.push_reserved.ensures.items,
)

pub returns-in-Err-cleared : goal.returns-in-Err-cleared
returns-in-Err-cleared g c = λ e. large_within g.T.Scalar.HALF c.args.form.now (c.args.by.now ∷ c.index-rows-place.result ∷ []) (c.args.by.now ∷ c.args.rows.now)
    (contains_here c.args.by.now c.args.rows.now, (contains_there c.args.by.now c.index-rows-place.result c.args.rows.now (contains_at c.args.rows.now c.loop-place.place c.index-rows-place.result c.loop-place-test.true c.index-rows-place.is), tt))
    (c.in-Err-cleared.ensures e)
