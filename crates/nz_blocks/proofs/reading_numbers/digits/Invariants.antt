use Rattle.std.proofs.Common.{◌-◌, ◌≤◌, length}
use Rattle.nz_blocks.proofs.Readings.{HasRead}
use Rattle.nz_blocks.proofs.reading_numbers.digits.Given as goal

abbrev pub invariant-digits : goal.invariant-digits
invariant-digits l = record {
  read : HasRead l.text l.from l.place l.total;
  forward : l.from ≤ l.place;
}

abbrev pub decreases-digits : goal.decreases-digits
decreases-digits l = length l.text - l.place
