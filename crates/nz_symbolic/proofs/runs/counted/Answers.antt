use Rattle.nz_input.specs.declared.symbol.Role.TheVariants as plain
use Rattle.nz_symbolic.specs.Sit.{AtConstraints}
use Rattle.nz_symbolic.proofs.WholeRuns.{plain-refused, counts-constraints}
use Rattle.nz_symbolic.proofs.runs.counted.Goals as goal

pub returns-in-Err : goal.returns-in-Err
returns-in-Err c = λ d. plain-refused (AtConstraints d) plain.Counting c.args.piece.now c.in-Err.n tt (counts-constraints d) c.requires.solid c.in-Err.ensures
