use Rattle.std.proofs.Common.{◌≡◌, ◌++◌, take}
use Rattle.nz_blocks.specs.AskedLines.{count_words}
use Rattle.nz_blocks.proofs.asked_lines.put_count_words.Given as goal

abbrev pub invariant-loop-place : goal.invariant-loop-place
invariant-loop-place l = l.out ≡ l.initial.out ++ count_words 1 (take l.place l.counts)
