use Rattle.std.proofs.Common.{◌≡◌, ◌++◌, replicate}
use Rattle.nz_blocks.proofs.columns.put_aligned.Given as goal

abbrev pub invariant-loop-space : goal.invariant-loop-space
invariant-loop-space l = l.out ≡ l.initial.out ++ replicate l._space 32
