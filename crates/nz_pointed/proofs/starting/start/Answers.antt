use Rattle.nz_pointed.proofs.StepLemmas.{left_all_nonzero}
use Rattle.nz_pointed.proofs.RangeLemmas.{match_map, left_too_large}
use Rattle.nz_pointed.proofs.starting.start.Goals as goal

pub answer-requires : goal.answer-requires
answer-requires g c = left_all_nonzero _ _ _ _ _ c.in-Ok.ensures

pub returns-in-Ok : goal.returns-in-Ok
returns-in-Ok g c =
    match_map _ _ _ _ c.answer.result
    (λ a h. h c.args.rank c.args.rows.now c.in-Ok.ensures)
    (λ e n k. left_too_large g.T.Scalar.HALF c.args.rank c.args.rows.now _ _ _ c.in-Ok.ensures (n k))
    c.answer.ensures
