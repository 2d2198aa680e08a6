use Rattle.std.proofs.Common.{take, true, ◌≤◌}
use Rattle.nz_edge.specs.Folders.{BothTold}
use Rattle.nz_edge.specs.Answers.{PutAll}
use Rattle.nz_run.specs.Statuses.{after_spaces}
use Rattle.nz_run.proofs.status_lines.put_entries.Given as goal

abbrev pub invariant-loop-place : goal.invariant-loop-place
invariant-loop-place g l = record {
  written : BothTold (g.S.Sink.written l.initial.console) (g.S.Sink.written l.console) (λ old new. PutAll old new (after_spaces (take l.place l.entries)) true);
  later : g.S.Sink.faults l.initial.console ≤ g.S.Sink.faults l.console;
}
