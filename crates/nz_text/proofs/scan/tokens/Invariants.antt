use Rattle.std.proofs.Common.{length, ◌-◌, ◌≤◌}
use Rattle.nz_text.specs.Pieces.{Leads}
use Rattle.nz_text.proofs.scan.tokens.Given as goal

abbrev pub invariant-loop-spans : goal.invariant-loop-spans
invariant-loop-spans l = record { within : l.at ≤ length l.text; leads : Leads l.text 0 l.spans l.at }

abbrev pub decreases-loop-spans : goal.decreases-loop-spans
decreases-loop-spans l = length l.text - l.at
