use Rattle.std.proofs.Common.{take}
use Rattle.std.specs.List.{AllZip}
use Rattle.nz_solve.specs.Parts.{IsAnswered}
use Rattle.nz_solve.proofs.replies.answer_all.Given as goal

abbrev pub invariant-loop-place : goal.invariant-loop-place
invariant-loop-place l = AllZip (IsAnswered l.constraints l.level l.lists.hilbert l.lists.modules) (take l.place l.vectors) l.list
