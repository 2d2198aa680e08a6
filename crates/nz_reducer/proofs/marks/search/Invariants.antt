use Rattle.std.proofs.Common.{map, take}
use Rattle.std.specs.Rc.{rc_slice_items}
use Rattle.nz_reducer.specs.Marks.{IsSearched}
use Rattle.nz_reducer.proofs.marks.search.Given as goal

abbrev pub invariant-loop-index : goal.invariant-loop-index
invariant-loop-index g l = IsSearched (map (λ e. map g.T.Scalar.integer (rc_slice_items e)) l.entries) l.values (take l.index (map (λ m. m.place) l.marks)) l.first l.compared
