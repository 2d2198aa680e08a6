use Rattle.std.proofs.Common.{◌≡◌, take, map}
use Rattle.nz_blocks.specs.Output.{from_one}
use Rattle.nz_blocks.proofs.text.simplex_rows.Given as goal

abbrev pub invariant-loop-index : goal.invariant-loop-index
invariant-loop-index l = l.rows ≡ map from_one (take l.index l.simplices)
