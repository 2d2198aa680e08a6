use Rattle.std.proofs.Common.{◌≡◌, take}
use Rattle.nz_spec.specs.Covers.{vectors_at}
use Rattle.nz_vec.proofs.rows.Rows.at_places.Given as goal

abbrev pub invariant-loop-index : goal.invariant-loop-index
invariant-loop-index g l = l.copies ≡ vectors_at l.self (take l.index l.places)
