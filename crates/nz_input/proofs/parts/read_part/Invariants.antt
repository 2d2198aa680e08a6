use Rattle.std.proofs.Common.{◌-◌, length}
use Rattle.nz_input.proofs.Parting.{IsPartReading}
use Rattle.nz_input.proofs.parts.read_part.Given as goal

abbrev pub invariant-loop-reader : goal.invariant-loop-reader
invariant-loop-reader l = IsPartReading l.fn.part l.text l.reader l.at l.role l.start

abbrev pub decreases-loop-reader : goal.decreases-loop-reader
decreases-loop-reader l = length l.text - l.at
