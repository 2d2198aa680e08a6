use Rattle.std.proofs.Common.{take}
use Rattle.std.specs.List.{AllByRecursion as Each}
use Rattle.nz_blocks.specs.Outcomes.{IsAsked}
use Rattle.nz_blocks.proofs.shapes_asked.all_answered.Given as goal

abbrev pub invariant-loop-place : goal.invariant-loop-place
invariant-loop-place l = Each (IsAsked l.draft) (take l.place l.list)
