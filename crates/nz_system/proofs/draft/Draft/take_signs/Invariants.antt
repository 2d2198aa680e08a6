use Rattle.std.proofs.Common.{◌≡◌, map}
use Rattle.nz_system.specs.declared.contribution.Contribution.TheVariants.{NotNegative}
use Rattle.nz_system.specs.Contributions.{sign_forms}
use Rattle.nz_system.specs.Drafts.{with_all}
use Rattle.nz_system.proofs.draft.Draft.take_signs.Given as goal

abbrev pub invariant-loop-place : goal.invariant-loop-place
invariant-loop-place l = l.self ≡ with_all l.fn.self (map NotNegative (sign_forms l.row l.behind l.place))
