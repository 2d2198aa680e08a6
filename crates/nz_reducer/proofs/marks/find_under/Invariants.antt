use Rattle.std.proofs.Common.{map, take}
use Rattle.std.specs.Rc.{rc_slice_items}
use Rattle.nz_reducer.specs.Marks.{NoneOfMarked}
use Rattle.nz_reducer.proofs.marks.find_under.Given as goal

abbrev pub invariant-loop-index : goal.invariant-loop-index
invariant-loop-index g l = NoneOfMarked (λ m. m.place) (map (λ e. map g.T.Scalar.integer (rc_slice_items e)) l.entries) l.values (take l.index l.marks)
