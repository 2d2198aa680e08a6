use Rattle.std.proofs.Common.{◌++◌, false}
use Rattle.nz_run.specs.Statuses.{status_line}
use Rattle.nz_run.specs.Summaries.{known_line, known_lines}
use Rattle.nz_run.proofs.Pieces.{then_more, stopped, put_same}
use Rattle.nz_run.proofs.Printing.{known_done}
use Rattle.nz_run.proofs.status_lines.put_lines.Goals as goal

pub returns-then-put_status-clause-written : goal.returns-then-put_status-clause-written
returns-then-put_status-clause-written g c =
    let first = status_line c.args.status.now in
    let second = known_line c.in-Some.side in
    put_same (first ++ second) (known_lines c.args.side c.args.status.now) c.put_summary.result (g.S.Sink.written c.args.console.now) (g.S.Sink.written c.put_summary.new.console) (known_done c.args.side c.in-Some.side c.args.status.now c.in-Some.is c.in-Done.is)
    (then_more first second c.put_summary.result (g.S.Sink.written c.args.console.now) (g.S.Sink.written c.put_status-in-Done.new.console) (g.S.Sink.written c.put_summary.new.console) c.if-put_status.ensures.written c.put_summary.ensures.written)

pub returns-else-put_status-clause-written : goal.returns-else-put_status-clause-written
returns-else-put_status-clause-written g c =
    let first = status_line c.args.status.now in
    let second = known_line c.in-Some.side in
    put_same (first ++ second) (known_lines c.args.side c.args.status.now) false (g.S.Sink.written c.args.console.now) (g.S.Sink.written c.put_status-in-Done.new.console) (known_done c.args.side c.in-Some.side c.args.status.now c.in-Some.is c.in-Done.is)
    (stopped first second (g.S.Sink.written c.args.console.now) (g.S.Sink.written c.put_status-in-Done.new.console) c.if-put_status.ensures.written)
