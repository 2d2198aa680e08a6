use Rattle.std.proofs.Common.{◌≡◌, ◌++◌, take}
use Rattle.nz_system.proofs.contribution.push_entries.Given as goal

abbrev pub invariant-loop-place : goal.invariant-loop-place
invariant-loop-place g l = l.entries.items ≡ l.fn.entries.items ++ take l.place l.row
