use Rattle.std.proofs.Common.{◌≡◌, ◌≤◌, [], take, drop}
use Rattle.nz_system.specs.Rules.{first, items_refusals, count_rows}
use Rattle.nz_system.proofs.rules.items_refusal.Given as goal

abbrev pub invariant-loop-place : goal.invariant-loop-place
invariant-loop-place l = (l.others ≡ count_rows (take l.place l.items)) × (l.others ≤ 1024) × (first (items_refusals l.forbidden [] l.items) ≡ first (items_refusals l.forbidden (take l.place l.items) (drop l.place l.items)))
