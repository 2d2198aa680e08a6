use Rattle.std.proofs.Common.{◌≡◌, take}
use Rattle.std.specs.List.{flat_map}
use Rattle.nz_system.specs.Contributions.{contributions}
use Rattle.nz_system.specs.Drafts.{with_all}
use Rattle.nz_system.proofs.draft.Draft.take_item.Given as goal

abbrev pub invariant-loop-place : goal.invariant-loop-place
invariant-loop-place l = l.self ≡ with_all l.fn.self (flat_map (contributions l.level l.item.kind) (take l.place l.item.rows))
