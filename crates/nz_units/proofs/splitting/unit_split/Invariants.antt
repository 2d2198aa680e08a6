use Rattle.std.proofs.Common.{◌≤◌, length, take}
use Rattle.nz_units.specs.Splits.{IsSplitBy}
use Rattle.nz_units.proofs.splitting.unit_split.Given as goal

abbrev pub invariant-loop-place : goal.invariant-loop-place
invariant-loop-place g l = (l.place ≤ length l.rows) × IsSplitBy l.lattice (take l.place l.rows) l.parts.units.items l.parts.rest.items
