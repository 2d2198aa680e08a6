use Rattle.std.proofs.Common.{◌≡◌, ◌≢◌, ◌⊎◌, ◌≤◌, inl, inr, length, max, ℕ, arith}
use Rattle.nz_symbolic.proofs.WholeRuns.{entry-refused, max-which}
use Rattle.nz_symbolic.proofs.runs.entering.Goals as goal
use Rattle.nz_symbolic.proofs.runs.entering.Goals.{else-m-piece-via-then-m-piece+else-m-eq11, else-m-piece-via-else-m-piece}

pub returns-in-Err : goal.returns-in-Err
returns-in-Err c =
    let differs : (c.common-m.result ≢ length c.args.piece.now) ⊎ (c.common-m.result ≢ 11) = elim c.else-m-piece.branch [ else-m-piece-via-then-m-piece+else-m-eq11 w ↦ inr w.if-m-eq11.false | else-m-piece-via-else-m-piece w ↦ inl w.if-m-piece.false ] in
    let w = max-which c.in-Err.n c.common-m.result c.max.result c.max.ensures in
    λ d. entry-refused d c.args.piece.now c.in-Err.n c.common-m.result c.max.result c.requires.solid c.in-Err.ensures c.common-m.ensures differs w.0 w.1 w.2
