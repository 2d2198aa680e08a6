use Rattle.std.proofs.Common.{take}
use Rattle.nz_reducer.specs.Levels.{IsWordOf}
use Rattle.nz_reducer.proofs.levels.word_of.Given as goal

abbrev pub invariant-loop-index : goal.invariant-loop-index
invariant-loop-index g l = IsWordOf (λ x. x.column) (λ x. g.T.Scalar.integer x.value) (take l.index l.levels) l.values l.word
