use Rattle.std.proofs.Common.{length, ◌-◌, ◌≡◌, ◌≤◌, drop}
use Rattle.nz_text.specs.declared.pieces.Mode.TheVariants.{Outside}
use Rattle.nz_text.specs.Skip.{skip}
use Rattle.nz_text.proofs.pieces.skip_gap.Given as goal

abbrev pub invariant-loop-at : goal.invariant-loop-at
invariant-loop-at l = record { within : l.at ≤ length l.text; same : skip l.mode (drop l.at l.text) ≡ skip Outside (drop l.from l.text) }

abbrev pub decreases-loop-at : goal.decreases-loop-at
decreases-loop-at l = length l.text - l.at
