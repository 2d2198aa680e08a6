use Rattle.std.proofs.Common.{take}
use Rattle.nz_rays.specs.Words.{IsWordOf}
use Rattle.nz_rays.proofs.words.word_of.Given as goal

abbrev pub invariant-loop-index : goal.invariant-loop-index
invariant-loop-index l = IsWordOf (take l.index l.set) l.from l.word
