use Rattle.nz_text.proofs.Stepping.{finds}
use Rattle.nz_symbolic.proofs.ReadingEnds.{run-finds}
use Rattle.nz_symbolic.proofs.lines.next_run.Goals as goal

pub returns-then-at-end : goal.returns-then-at-end
returns-then-at-end c = run-finds c.args.text.now (record { start = c.args.at; end = c.args.end }) c.if-at-end.true c.requires.run

pub returns-else-at-end : goal.returns-else-at-end
returns-else-at-end c = finds c.args.text.now c.args.at c.step.result c.requires.within c.step.ensures
