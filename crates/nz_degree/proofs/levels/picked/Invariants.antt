use Rattle.std.proofs.Common.{take}
use Rattle.nz_order.specs.Picks.{Picks}
use Rattle.nz_degree.specs.Levels.{IsOnSide}
use Rattle.nz_degree.proofs.levels.picked.Given as goal

abbrev pub invariant-loop-place : goal.invariant-loop-place
invariant-loop-place g l = Picks (IsOnSide l.there (g.T.Scalar.integer l.level)) (take l.place l.list) l.picked
