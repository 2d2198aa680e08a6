use Rattle.std.proofs.Common.{◌≡◌, ◌++◌, ap, sym, ◌∙◌, rules}
use Rattle.std.specs.Prelude.{codes, decimal}
use Rattle.nz_vec.specs.Texts.{Text}
use Rattle.nz_blocks.specs.Lines.{line}
use Rattle.nz_run.specs.Statuses.{rule_name, place_line, entries_line, status_line}
use Rattle.nz_run.specs.declared.status.Status.TheVariants.{Usage, Absent, ReadFault, TooLong, Range, TooMany, WriteFault, NoMemory, Converted, UnitsDone, Points}
use Rattle.nz_run.proofs.Pieces.{put_same}
use Rattle.nz_run.proofs.status_lines.put_status.Goals as goal

pub returns-in-Grammar-clause-written : goal.returns-in-Grammar-clause-written
returns-in-Grammar-clause-written g c =
    put_same (place_line (codes "line ") c.in-Grammar.line (codes " column ") c.in-Grammar.column c.name_of.result.now) (status_line c.args.status.now) c.put_place.result (g.S.Sink.written c.args.console.now) (g.S.Sink.written c.put_place.new.console)
    (ap (λ (t : Text). place_line (codes "line ") c.in-Grammar.line (codes " column ") c.in-Grammar.column t) c.name_of.ensures ∙ ap status_line (sym c.in-Grammar.is)) c.put_place.ensures.written

pub returns-in-Meaning-clause-written : goal.returns-in-Meaning-clause-written
returns-in-Meaning-clause-written g c =
    let same : c.from.result ≡ c.in-Meaning.row = search (rules, c.from.ensures) in
    put_same (place_line (codes "item ") c.in-Meaning.item (codes " row ") c.from.result c.rule_name.result.now) (status_line c.args.status.now) c.put_place-in-Meaning.result (g.S.Sink.written c.args.console.now) (g.S.Sink.written c.put_place-in-Meaning.new.console)
    (ap (λ (t : Text). place_line (codes "item ") c.in-Meaning.item (codes " row ") c.from.result t) c.rule_name.ensures ∙ ap (λ n. place_line (codes "item ") c.in-Meaning.item (codes " row ") n (rule_name c.in-Meaning.fault)) same ∙ ap status_line (sym c.in-Meaning.is)) c.put_place-in-Meaning.ensures.written

pub returns-in-Usage-clause-written : goal.returns-in-Usage-clause-written
returns-in-Usage-clause-written g c =
    put_same (status_line Usage) (status_line c.args.status.now) c.put_all-in-Usage.result (g.S.Sink.written c.args.console.now) (g.S.Sink.written c.put_all-in-Usage.new.sink) (ap status_line (sym c.in-Usage.is)) c.put_all-in-Usage.ensures.written

pub returns-in-Absent-clause-written : goal.returns-in-Absent-clause-written
returns-in-Absent-clause-written g c =
    put_same (status_line Absent) (status_line c.args.status.now) c.put_all-in-Absent.result (g.S.Sink.written c.args.console.now) (g.S.Sink.written c.put_all-in-Absent.new.sink) (ap status_line (sym c.in-Absent.is)) c.put_all-in-Absent.ensures.written

pub returns-in-ReadFault-clause-written : goal.returns-in-ReadFault-clause-written
returns-in-ReadFault-clause-written g c =
    put_same (status_line ReadFault) (status_line c.args.status.now) c.put_all-in-ReadFault.result (g.S.Sink.written c.args.console.now) (g.S.Sink.written c.put_all-in-ReadFault.new.sink) (ap status_line (sym c.in-ReadFault.is)) c.put_all-in-ReadFault.ensures.written

pub returns-in-TooLong-clause-written : goal.returns-in-TooLong-clause-written
returns-in-TooLong-clause-written g c =
    put_same (status_line TooLong) (status_line c.args.status.now) c.put_all-in-TooLong.result (g.S.Sink.written c.args.console.now) (g.S.Sink.written c.put_all-in-TooLong.new.sink) (ap status_line (sym c.in-TooLong.is)) c.put_all-in-TooLong.ensures.written

pub returns-in-WriteFault-clause-written : goal.returns-in-WriteFault-clause-written
returns-in-WriteFault-clause-written g c =
    put_same (status_line WriteFault) (status_line c.args.status.now) c.put_all-in-WriteFault.result (g.S.Sink.written c.args.console.now) (g.S.Sink.written c.put_all-in-WriteFault.new.sink) (ap status_line (sym c.in-WriteFault.is)) c.put_all-in-WriteFault.ensures.written

pub returns-in-NoMemory-clause-written : goal.returns-in-NoMemory-clause-written
returns-in-NoMemory-clause-written g c =
    put_same (status_line NoMemory) (status_line c.args.status.now) c.put_all-in-NoMemory.result (g.S.Sink.written c.args.console.now) (g.S.Sink.written c.put_all-in-NoMemory.new.sink) (ap status_line (sym c.in-NoMemory.is)) c.put_all-in-NoMemory.ensures.written

pub returns-in-Converted-clause-written : goal.returns-in-Converted-clause-written
returns-in-Converted-clause-written g c =
    put_same (status_line Converted) (status_line c.args.status.now) c.put_all-in-Converted.result (g.S.Sink.written c.args.console.now) (g.S.Sink.written c.put_all-in-Converted.new.sink) (ap status_line (sym c.in-Converted.is)) c.put_all-in-Converted.ensures.written

pub returns-in-UnitsDone-clause-written : goal.returns-in-UnitsDone-clause-written
returns-in-UnitsDone-clause-written g c =
    put_same (status_line UnitsDone) (status_line c.args.status.now) c.put_all-in-UnitsDone.result (g.S.Sink.written c.args.console.now) (g.S.Sink.written c.put_all-in-UnitsDone.new.sink) (ap status_line (sym c.in-UnitsDone.is)) c.put_all-in-UnitsDone.ensures.written

pub returns-in-Range-clause-written : goal.returns-in-Range-clause-written
returns-in-Range-clause-written g c =
    put_same (status_line Range) (status_line c.args.status.now) c.put_all-in-Range.result (g.S.Sink.written c.args.console.now) (g.S.Sink.written c.put_all-in-Range.new.sink) (ap status_line (sym c.in-Range.is)) c.put_all-in-Range.ensures.written

pub returns-in-TooMany-clause-written : goal.returns-in-TooMany-clause-written
returns-in-TooMany-clause-written g c =
    put_same (status_line TooMany) (status_line c.args.status.now) c.put_all-in-TooMany.result (g.S.Sink.written c.args.console.now) (g.S.Sink.written c.put_all-in-TooMany.new.sink) (ap status_line (sym c.in-TooMany.is)) c.put_all-in-TooMany.ensures.written

pub returns-in-Stopped-clause-written : goal.returns-in-Stopped-clause-written
returns-in-Stopped-clause-written g c =
    put_same (line (codes "stopped at stage " ++ decimal c.in-Stopped.stage)) (status_line c.args.status.now) c.put_number_line.result (g.S.Sink.written c.args.console.now) (g.S.Sink.written c.put_number_line.new.console) (ap status_line (sym c.in-Stopped.is)) c.put_number_line.ensures.written

pub returns-in-Line-clause-written : goal.returns-in-Line-clause-written
returns-in-Line-clause-written g c =
    put_same (entries_line (codes "line:") c.in-Line.vector) (status_line c.args.status.now) c.put_entries_line.result (g.S.Sink.written c.args.console.now) (g.S.Sink.written c.put_entries_line.new.console) (ap status_line (sym c.in-Line.is)) c.put_entries_line.ensures.written

pub returns-in-Grade-clause-written : goal.returns-in-Grade-clause-written
returns-in-Grade-clause-written g c =
    put_same (entries_line (codes "grade:") c.in-Grade.vector) (status_line c.args.status.now) c.put_entries_line-in-Grade.result (g.S.Sink.written c.args.console.now) (g.S.Sink.written c.put_entries_line-in-Grade.new.console) (ap status_line (sym c.in-Grade.is)) c.put_entries_line-in-Grade.ensures.written

pub returns-in-Points-clause-written : goal.returns-in-Points-clause-written
returns-in-Points-clause-written g c =
    put_same (status_line Points) (status_line c.args.status.now) c.put_all-in-Points.result (g.S.Sink.written c.args.console.now) (g.S.Sink.written c.put_all-in-Points.new.sink) (ap status_line (sym c.in-Points.is)) c.put_all-in-Points.ensures.written

pub returns-in-Unbounded-clause-written : goal.returns-in-Unbounded-clause-written
returns-in-Unbounded-clause-written g c =
    put_same (entries_line (codes "unbounded:") c.in-Unbounded.vector) (status_line c.args.status.now) c.put_entries_line-in-Unbounded.result (g.S.Sink.written c.args.console.now) (g.S.Sink.written c.put_entries_line-in-Unbounded.new.console) (ap status_line (sym c.in-Unbounded.is)) c.put_entries_line-in-Unbounded.ensures.written
