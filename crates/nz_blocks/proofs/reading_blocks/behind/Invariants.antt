use Rattle.std.proofs.Common.{◌≡◌, drop, take, ◌++◌}
use Rattle.nz_blocks.proofs.reading_blocks.behind.Given as goal

abbrev pub invariant-loop-index : goal.invariant-loop-index
invariant-loop-index l = drop l.from l.text ≡ take l.index l.bytes ++ drop l.place l.text
