use Rattle.std.proofs.Common.{ℕ, ◌<◌, [], get_or}
use Rattle.nz_order.specs.Boxes.{IsBelow}
use Rattle.nz_reducer.proofs.list_table.ListTableTable.first.Given as goal

abbrev pub invariant-loop-place : goal.invariant-loop-place
invariant-loop-place g l = (k : ℕ) → k < l.place → ¬ IsBelow (get_or l.self.rows k []) l.values
