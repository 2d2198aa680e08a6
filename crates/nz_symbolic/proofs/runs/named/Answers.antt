use Rattle.std.proofs.Common.{◌≡◌, ◌≢◌, ◌⊎◌, inl, inr, length}
use Rattle.nz_symbolic.specs.declared.symbol.Token.TheVariants as token
use Rattle.nz_symbolic.specs.Words.{symbolic}
use Rattle.nz_symbolic.specs.Sit.{AtName}
use Rattle.nz_symbolic.proofs.WholeRuns.{word-refused, names-word}
use Rattle.nz_symbolic.proofs.runs.named.Goals as goal
use Rattle.nz_symbolic.proofs.runs.named.Goals.{else-n-piece-via-then-n-piece+else-n-eq8, else-n-piece-via-else-n-piece}

pub returns-else-n-piece : goal.returns-else-n-piece
returns-else-n-piece c =
    let differs : (c.common-n.result ≢ length c.args.piece.now) ⊎ (c.common-n.result ≢ length symbolic) = elim c.else-n-piece.branch [ else-n-piece-via-then-n-piece+else-n-eq8 w ↦ inr w.if-n-eq8.false | else-n-piece-via-else-n-piece w ↦ inl w.if-n-piece.false ] in
    λ d n. word-refused (AtName d n) token.Symbolic symbolic c.args.piece.now c.common-n.result tt (names-word d n) c.requires.solid c.common-n.ensures differs
