use Rattle.nz_input.specs.declared.symbol.Role.TheVariants as plain
use Rattle.nz_symbolic.specs.Sit.{AtFigure}
use Rattle.nz_symbolic.proofs.WholeRuns.{plain-refused, figures-plain}
use Rattle.nz_symbolic.proofs.runs.figured.Goals as goal

pub returns-in-Err : goal.returns-in-Err
returns-in-Err c = λ fixed n k more. plain-refused (AtFigure fixed n k more) plain.Numeric c.args.piece.now c.in-Err.n tt (figures-plain fixed n k more) c.requires.solid c.in-Err.ensures
