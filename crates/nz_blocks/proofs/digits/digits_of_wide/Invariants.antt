use Rattle.std.proofs.Common.{◌≡◌, ◌+◌, length}
use Rattle.std.specs.Fmt.{decimal}
use Rattle.nz_blocks.proofs.digits.digits_of_wide.Given as goal

abbrev pub invariant-rests : goal.invariant-rests
invariant-rests l = length (decimal l.number) ≡ l.digits + length (decimal l.rest)

abbrev pub decreases-rests : goal.decreases-rests
decreases-rests l = l.rest
