use Rattle.nz_words.specs.Parts.{bytes_of_each}
use Rattle.nz_run.proofs.Composing.{told_weaker}
use Rattle.nz_run.proofs.Printing.{puts_lines}
use Rattle.nz_run.proofs.top.run.Goals as goal

pub returns-clause-console : goal.returns-clause-console
returns-clause-console g c = puts_lines c.irreducibles_are_points.ensures.numbers (bytes_of_each c.args.words.now) c.put_lines-written.result _ _ c.run_words-status.result.status c.run_words-status.result.side _ _ c.run_words-status.ensures.side c.run_words-status.ensures.ordered c.put_lines-written.ensures.cause c.put_lines-written.ensures.written

pub returns-clause-closures : goal.returns-clause-closures
returns-clause-closures g c =
    told_weaker (g.F.Folder.files c.args.folder.now) _ _ _ c.run_words-status.ensures.outcome
    (λ old new h. c.closures_are_stored.ensures (bytes_of_each c.args.words.now) _ _ _ _ c.run_words-status.result.status old new h)
