use Rattle.std.proofs.Common.{◌≡◌, map, take}
use Rattle.nz_classes.proofs.found.rows_of.Given as goal

abbrev pub invariant-loop-entries : goal.invariant-loop-entries
invariant-loop-entries g l = l.rows ≡ take l.entries-index (map (λ v. map g.T.Scalar.integer v.items) l.list)
