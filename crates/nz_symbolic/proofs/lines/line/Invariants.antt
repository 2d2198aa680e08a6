use Rattle.std.proofs.Common.{◌-◌, length}
use Rattle.nz_symbolic.specs.Lines.{IsReached, sit_of}
use Rattle.nz_symbolic.proofs.lines.line.Given as goal

abbrev pub invariant-loop-at : goal.invariant-loop-at
invariant-loop-at l = IsReached l.text (sit_of l.amb l.later l.spot) l.here

abbrev pub decreases-loop-at : goal.decreases-loop-at
decreases-loop-at l = length l.text - l.here.at
