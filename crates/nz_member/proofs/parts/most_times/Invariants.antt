use Rattle.std.proofs.Common.{take, map}
use Rattle.nz_member.specs.Amounts.{TellsMost}
use Rattle.nz_member.proofs.parts.most_times.Given as goal

abbrev pub invariant-loop-place : goal.invariant-loop-place
invariant-loop-place g l = TellsMost g.T.Scalar.integer (take l.place (map g.T.Scalar.integer l.heights)) (take l.place (map g.T.Scalar.integer l.values)) l.most
