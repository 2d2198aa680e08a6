use Rattle.std.proofs.Common.{ℕ, length, subst, inl, refl}
use Rattle.nz_pointed.specs.Pointed.{IsSimplexOf, IsLineOf, IsAnswer, IsTooLarge}
use Rattle.nz_watch.proofs.TellingLemmas.{none_told}
use Rattle.nz_frame.proofs.FrameLemmas.{frame_wide, wide_at}
use Rattle.nz_frame.proofs.LineLemmas.{line_nonzero}
use Rattle.nz_solve.proofs.RangeLemmas.{reckon_refused, own_reach, start_refused}
use Rattle.nz_solve.proofs.LineRefusals.{line_refused}
use Rattle.nz_solve.proofs.solving.solve_narrow.Goals as goal

pub returns-in-Err-clause-outcome : goal.returns-in-Err-clause-outcome
returns-in-Err-clause-outcome g c = reckon_refused c.args.system.now.mode c.args.system.now.system g.T.Scalar.HALF c.args.limit c.args.told_before c.args.told_before _ _ (inl (refl, none_told _)) c.in-Err.refusal c.counted.result (λ e. own_reach c.args.system.now.mode c.args.system.now.system g.T.Scalar.HALF (c.in-Err.ensures.cause e)) c.counted.ensures

pub start-requires : goal.start-requires
start-requires g c = wide_at (length c.in-Ok.frame.base.vectors) c.rank.result c.in-Ok.frame.rows c.rank.ensures.count (frame_wide c.args.system.now.system c.in-Ok.frame.base c.in-Ok.frame.rows c.in-Ok.ensures.frame)

pub returns-in-Err-start-clause-outcome : goal.returns-in-Err-start-clause-outcome
returns-in-Err-start-clause-outcome g c =
    let s = c.args.system.now.system in
    reckon_refused c.args.system.now.mode s g.T.Scalar.HALF c.args.limit c.args.told_before c.args.told_before _ _ (inl (refl, none_told _)) c.in-Err-start.refusal c.counted-in-Err-start.result
    (λ e. start_refused s c.in-Ok.frame.base c.in-Ok.frame.rows c.in-Ok.ensures.frame c.in-Ok.ensures.swept g.T.Scalar.HALF g.T.Scalar.fits g.met.T.Scalar.room c.args.system.now.mode (subst (λ (n : ℕ). IsTooLarge g.T.Scalar.HALF n c.in-Ok.frame.rows) c.rank.ensures.count (c.in-Err-start.ensures e)))
    c.counted-in-Err-start.ensures

pub solve_pointed-requires-clause-simplex : goal.solve_pointed-requires-clause-simplex
solve_pointed-requires-clause-simplex g c = subst (λ (n : ℕ). IsSimplexOf n c.in-Ok.frame.rows c.in-Simplex.simplex.places c.in-Simplex.simplex.rays) c.rank.ensures.count (subst (IsAnswer c.rank.result c.in-Ok.frame.rows) c.in-Simplex.is c.in-Ok-start.ensures)

pub line_refusal-requires-clause-width : goal.line_refusal-requires-clause-width
line_refusal-requires-clause-width g c =
    let li : IsLineOf (length c.in-Ok.frame.base.vectors) c.in-Ok.frame.rows c.in-Line.line = subst (λ (n : ℕ). IsLineOf n c.in-Ok.frame.rows c.in-Line.line) c.rank.ensures.count (subst (IsAnswer c.rank.result c.in-Ok.frame.rows) c.in-Line.is c.in-Ok-start.ensures) in
    li.width

pub line_refusal-requires-clause-nonzero : goal.line_refusal-requires-clause-nonzero
line_refusal-requires-clause-nonzero g c =
    let li : IsLineOf (length c.in-Ok.frame.base.vectors) c.in-Ok.frame.rows c.in-Line.line = subst (λ (n : ℕ). IsLineOf n c.in-Ok.frame.rows c.in-Line.line) c.rank.ensures.count (subst (IsAnswer c.rank.result c.in-Ok.frame.rows) c.in-Line.is c.in-Ok-start.ensures) in
    line_nonzero c.args.system.now.system c.in-Ok.frame.base c.in-Ok.frame.rows c.kept.ensures.system c.in-Ok.ensures.frame c.in-Line.line li

pub returns-clause-outcome : goal.returns-clause-outcome
returns-clause-outcome g c =
    let li : IsLineOf (length c.in-Ok.frame.base.vectors) c.in-Ok.frame.rows c.in-Line.line = subst (λ (n : ℕ). IsLineOf n c.in-Ok.frame.rows c.in-Line.line) c.rank.ensures.count (subst (IsAnswer c.rank.result c.in-Ok.frame.rows) c.in-Line.is c.in-Ok-start.ensures) in
    line_refused c.args.system.now.system c.in-Ok.frame.base c.in-Ok.frame.rows c.kept.ensures.system c.in-Ok.ensures.frame c.in-Line.line c.in-Ok.ensures.swept li g.T.Scalar.HALF g.T.Scalar.fits g.met.T.Scalar.room c.args.system.now.mode c.args.limit c.args.told_before _ c.line_refusal.result c.line_refusal.ensures
