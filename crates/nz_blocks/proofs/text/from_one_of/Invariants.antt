use Rattle.std.proofs.Common.{◌≡◌, take}
use Rattle.nz_blocks.specs.Output.{from_one}
use Rattle.nz_blocks.proofs.text.from_one_of.Given as goal

abbrev pub invariant-loop-index : goal.invariant-loop-index
invariant-loop-index l = l.entries.items ≡ from_one (take l.index l.places)
