use Rattle.std.proofs.Common.{[], ◌∷◌, ◌++◌, false, true, sym}
use Rattle.std.proofs.lemmas.List.{append_assoc}
use Rattle.nz_blocks.specs.Lines.{line}
use Rattle.nz_run.specs.Statuses.{after_spaces}
use Rattle.nz_run.proofs.Pieces.{then_more, stopped, put_same}
use Rattle.nz_run.proofs.status_lines.put_entries_line.Goals as goal

pub returns-then-not-put_all-clause-written : goal.returns-then-not-put_all-clause-written
returns-then-not-put_all-clause-written g c =
    let first = c.args.label.now in
    let second = after_spaces c.args.entries.now in
    put_same (first ++ (second ++ 10 ∷ [])) (line (first ++ second)) false (g.S.Sink.written c.args.console.now) (g.S.Sink.written c.put_all.new.sink) (sym (append_assoc first second (10 ∷ [])))
    (stopped first (second ++ 10 ∷ []) (g.S.Sink.written c.args.console.now) (g.S.Sink.written c.put_all.new.sink) c.if-not-put_all.ensures.written)

pub returns-then-not-put_entries-clause-written : goal.returns-then-not-put_entries-clause-written
returns-then-not-put_entries-clause-written g c =
    let first = c.args.label.now in
    let second = after_spaces c.args.entries.now in
    stopped (first ++ second) (10 ∷ []) (g.S.Sink.written c.args.console.now) (g.S.Sink.written c.put_entries.new.console)
    (then_more first second false (g.S.Sink.written c.args.console.now) (g.S.Sink.written c.put_all.new.sink) (g.S.Sink.written c.put_entries.new.console) c.if-not-put_all.ensures.written c.if-not-put_entries.ensures.written)

pub returns-clause-written : goal.returns-clause-written
returns-clause-written g c =
    let first = c.args.label.now in
    let second = after_spaces c.args.entries.now in
    then_more (first ++ second) (10 ∷ []) c.put_all-2.result (g.S.Sink.written c.args.console.now) (g.S.Sink.written c.put_entries.new.console) (g.S.Sink.written c.put_all-2.new.sink)
    (then_more first second true (g.S.Sink.written c.args.console.now) (g.S.Sink.written c.put_all.new.sink) (g.S.Sink.written c.put_entries.new.console) c.if-not-put_all.ensures.written c.if-not-put_entries.ensures.written)
    c.put_all-2.ensures.written
