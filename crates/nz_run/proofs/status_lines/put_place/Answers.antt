use Rattle.std.proofs.Common.{◌++◌, false}
use Rattle.std.specs.Prelude.{codes, decimal}
use Rattle.nz_blocks.specs.Lines.{line}
use Rattle.nz_run.specs.Statuses.{place_line}
use Rattle.nz_run.proofs.Pieces.{then_more, stopped, put_same, place_text}
use Rattle.nz_run.proofs.status_lines.put_place.Goals as goal

pub returns-then-not-put_number-clause-written : goal.returns-then-not-put_number-clause-written
returns-then-not-put_number-clause-written g c =
    let first = c.args.first.now ++ decimal c.args.row in
    let others = (c.args.second.now ++ decimal c.args.column) ++ line (codes ": " ++ c.args.fault.now) in
    put_same (first ++ others) (place_line c.args.first.now c.args.row c.args.second.now c.args.column c.args.fault.now) false (g.S.Sink.written c.args.console.now) (g.S.Sink.written c.put_number.new.console) (place_text c.args.first.now c.args.row c.args.second.now c.args.column c.args.fault.now)
    (stopped first others (g.S.Sink.written c.args.console.now) (g.S.Sink.written c.put_number.new.console) c.if-not-put_number.ensures.written)

pub returns-then-not-put_number-2-clause-written : goal.returns-then-not-put_number-2-clause-written
returns-then-not-put_number-2-clause-written g c =
    let first = c.args.first.now ++ decimal c.args.row in
    let second = c.args.second.now ++ decimal c.args.column in
    let third = line (codes ": " ++ c.args.fault.now) in
    put_same (first ++ (second ++ third)) (place_line c.args.first.now c.args.row c.args.second.now c.args.column c.args.fault.now) false (g.S.Sink.written c.args.console.now) (g.S.Sink.written c.put_number-2.new.console) (place_text c.args.first.now c.args.row c.args.second.now c.args.column c.args.fault.now)
    (then_more first (second ++ third) false (g.S.Sink.written c.args.console.now) (g.S.Sink.written c.put_number.new.console) (g.S.Sink.written c.put_number-2.new.console)
    c.if-not-put_number.ensures.written
    (stopped second third (g.S.Sink.written c.put_number.new.console) (g.S.Sink.written c.put_number-2.new.console) c.if-not-put_number-2.ensures.written))

pub returns-clause-written : goal.returns-clause-written
returns-clause-written g c =
    let first = c.args.first.now ++ decimal c.args.row in
    let second = c.args.second.now ++ decimal c.args.column in
    let third = line (codes ": " ++ c.args.fault.now) in
    put_same (first ++ (second ++ third)) (place_line c.args.first.now c.args.row c.args.second.now c.args.column c.args.fault.now) c.put_text.result (g.S.Sink.written c.args.console.now) (g.S.Sink.written c.put_text.new.console) (place_text c.args.first.now c.args.row c.args.second.now c.args.column c.args.fault.now)
    (then_more first (second ++ third) c.put_text.result (g.S.Sink.written c.args.console.now) (g.S.Sink.written c.put_number.new.console) (g.S.Sink.written c.put_text.new.console)
    c.if-not-put_number.ensures.written
    (then_more second third c.put_text.result (g.S.Sink.written c.put_number.new.console) (g.S.Sink.written c.put_number-2.new.console) (g.S.Sink.written c.put_text.new.console)
    c.if-not-put_number-2.ensures.written
    c.put_text.ensures.written))
