use Rattle.std.proofs.Common.{length, ◌-◌, ◌≤◌, drop, take}
use Rattle.nz_text.specs.Bytes.{IsSolid}
use Rattle.nz_text.proofs.pieces.run_end.Given as goal

abbrev pub invariant-loop-at : goal.invariant-loop-at
invariant-loop-at l = record { from : l.from ≤ l.at; within : l.at ≤ length l.text; solid : IsSolid (take (l.at - l.from) (drop l.from l.text)) }

abbrev pub decreases-loop-at : goal.decreases-loop-at
decreases-loop-at l = length l.text - l.at
