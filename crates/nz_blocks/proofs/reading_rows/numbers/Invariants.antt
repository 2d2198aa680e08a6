use Rattle.std.proofs.Common.{◌-◌, drop, length}
use Rattle.nz_blocks.proofs.RowReadings.{Reading}
use Rattle.nz_blocks.proofs.reading_rows.numbers.Given as goal

abbrev pub invariant-entries : goal.invariant-entries
invariant-entries l = Reading (drop l.from l.text) (drop l.place l.text) l.entries.items

abbrev pub decreases-entries : goal.decreases-entries
decreases-entries l = length l.text - l.place
