use Rattle.std.proofs.Common.{◌++◌, false}
use Rattle.std.specs.Prelude.{codes, decimal}
use Rattle.nz_blocks.specs.Lines.{line}
use Rattle.nz_run.specs.Summaries.{counted_line}
use Rattle.nz_run.proofs.Pieces.{then_more, stopped, put_same, counted_text}
use Rattle.nz_run.proofs.status_lines.put_counts.Goals as goal

pub returns-then-not-put_number-clause-written : goal.returns-then-not-put_number-clause-written
returns-then-not-put_number-clause-written g c =
    let first = codes "made " ++ decimal c.args.side in
    let others = (codes ": " ++ decimal c.args.count) ++ line (codes " elements, sum " ++ decimal c.args.sum) in
    put_same (first ++ others) (counted_line c.args.side c.args.count (decimal c.args.sum)) false (g.S.Sink.written c.args.console.now) (g.S.Sink.written c.put_number.new.console) (counted_text c.args.side c.args.count (decimal c.args.sum))
    (stopped first others (g.S.Sink.written c.args.console.now) (g.S.Sink.written c.put_number.new.console) c.if-not-put_number.ensures.written)

pub returns-then-not-put_number-2-clause-written : goal.returns-then-not-put_number-2-clause-written
returns-then-not-put_number-2-clause-written g c =
    let first = codes "made " ++ decimal c.args.side in
    let second = codes ": " ++ decimal c.args.count in
    let third = line (codes " elements, sum " ++ decimal c.args.sum) in
    put_same (first ++ (second ++ third)) (counted_line c.args.side c.args.count (decimal c.args.sum)) false (g.S.Sink.written c.args.console.now) (g.S.Sink.written c.put_number-2.new.console) (counted_text c.args.side c.args.count (decimal c.args.sum))
    (then_more first (second ++ third) false (g.S.Sink.written c.args.console.now) (g.S.Sink.written c.put_number.new.console) (g.S.Sink.written c.put_number-2.new.console)
    c.if-not-put_number.ensures.written
    (stopped second third (g.S.Sink.written c.put_number.new.console) (g.S.Sink.written c.put_number-2.new.console) c.if-not-put_number-2.ensures.written))

pub returns-clause-written : goal.returns-clause-written
returns-clause-written g c =
    let first = codes "made " ++ decimal c.args.side in
    let second = codes ": " ++ decimal c.args.count in
    let third = line (codes " elements, sum " ++ decimal c.args.sum) in
    put_same (first ++ (second ++ third)) (counted_line c.args.side c.args.count (decimal c.args.sum)) c.put_number_line.result (g.S.Sink.written c.args.console.now) (g.S.Sink.written c.put_number_line.new.console) (counted_text c.args.side c.args.count (decimal c.args.sum))
    (then_more first (second ++ third) c.put_number_line.result (g.S.Sink.written c.args.console.now) (g.S.Sink.written c.put_number.new.console) (g.S.Sink.written c.put_number_line.new.console)
    c.if-not-put_number.ensures.written
    (then_more second third c.put_number_line.result (g.S.Sink.written c.put_number.new.console) (g.S.Sink.written c.put_number-2.new.console) (g.S.Sink.written c.put_number_line.new.console)
    c.if-not-put_number-2.ensures.written
    c.put_number_line.ensures.written))
