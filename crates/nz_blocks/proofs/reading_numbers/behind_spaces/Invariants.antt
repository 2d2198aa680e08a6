use Rattle.std.proofs.Common.{◌≡◌, ◌≤◌, ◌-◌, drop, length}
use Rattle.nz_blocks.specs.Beginnings.{unspaced}
use Rattle.nz_blocks.proofs.reading_numbers.behind_spaces.Given as goal

abbrev pub invariant-spaces : goal.invariant-spaces
invariant-spaces l = record {
  rest : unspaced (drop l.place l.text) ≡ unspaced (drop l.from l.text);
  forward : l.from ≤ l.place;
}

abbrev pub decreases-spaces : goal.decreases-spaces
decreases-spaces l = length l.text - l.place
