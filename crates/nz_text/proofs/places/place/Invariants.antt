use Rattle.std.proofs.Common.{◌≡◌, ◌≤◌, ◌+◌, drop}
use Rattle.nz_text.specs.Places.{line_from, column_from}
use Rattle.nz_text.proofs.places.place.Given as goal

abbrev pub invariant-loop-b : goal.invariant-loop-b
invariant-loop-b l = record {
  line_fits : l.line ≤ l.b-index + 1;
  column_fits : l.column ≤ l.b-index + 1;
  line : line_from l.line (drop l.b-index l.before) ≡ line_from 1 l.before;
  column : column_from l.column (drop l.b-index l.before) ≡ column_from 1 l.before;
}
