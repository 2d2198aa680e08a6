use Rattle.std.proofs.Common.{◌≡◌, take}
use Rattle.nz_system.specs.Contributions.{given}
use Rattle.nz_system.specs.Drafts.{with_all}
use Rattle.nz_system.proofs.draft.Draft.take_items.Given as goal

abbrev pub invariant-loop-place : goal.invariant-loop-place
invariant-loop-place l = l.self ≡ with_all l.fn.self (given l.level (take l.place l.items))
