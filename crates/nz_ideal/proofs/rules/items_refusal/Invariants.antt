use Rattle.std.proofs.Common.{◌≡◌, ◌≤◌, [], take, drop}
use Rattle.nz_system.specs.Rules.{first, count_rows}
use Rattle.nz_ideal.specs.IdealRules.{items_refusals}
use Rattle.nz_ideal.proofs.rules.items_refusal.Given as goal

abbrev pub invariant-loop-place : goal.invariant-loop-place
invariant-loop-place l = (l.others ≡ count_rows (take l.place l.items)) × (l.others ≤ 960) × (first (items_refusals [] l.items) ≡ first (items_refusals (take l.place l.items) (drop l.place l.items)))
