use Rattle.std.proofs.Common.{[], ◌∷◌, ◌++◌}
use Rattle.std.specs.Prelude.{decimal}
use Rattle.nz_run.proofs.Pieces.{then_more, stopped}
use Rattle.nz_run.proofs.status_lines.put_number_line.Goals as goal

pub returns-then-put_number-clause-written : goal.returns-then-put_number-clause-written
returns-then-put_number-clause-written g c =
    then_more (c.args.label.now ++ decimal c.args.number) (10 ∷ []) c.put_all.result (g.S.Sink.written c.args.console.now) (g.S.Sink.written c.put_number.new.console) (g.S.Sink.written c.put_all.new.sink)
    c.if-put_number.ensures.written c.put_all.ensures.written

pub returns-else-put_number-clause-written : goal.returns-else-put_number-clause-written
returns-else-put_number-clause-written g c =
    stopped (c.args.label.now ++ decimal c.args.number) (10 ∷ []) (g.S.Sink.written c.args.console.now) (g.S.Sink.written c.put_number.new.console) c.if-put_number.ensures.written
