use Rattle.std.proofs.Common.{◌≡◌, ◌≤◌, ◌+◌, ◌++◌, false, length, take}
use Rattle.nz_spec.specs.Covers.{vectors_at}
use Rattle.nz_watch.specs.Telling.{HasPassed}
use Rattle.nz_dual.specs.Runs.{AreOrderedStages, AreNotCrowded}
use Rattle.nz_dual.specs.Refusals.{IsRowOf}
use Rattle.nz_dual.proofs.running.all_inserted.Given as goal

abbrev pub invariant-loop-place : goal.invariant-loop-place
invariant-loop-place g l = record {
  same_width : l.stage.width ≡ length l.simplex.places;
  rows : l.stage.rows ≡ vectors_at l.rows l.simplex.places ++ take l.place l.others;
  within : length l.stage.list ≤ l.limit;
  not_crowded : AreNotCrowded (IsRowOf g.T.Scalar.HALF l.limit (length l.simplex.places) (vectors_at l.rows l.simplex.places) l.simplex.rays l.others) (l.place + 1);
  passed : HasPassed (AreOrderedStages (length l.simplex.places) (vectors_at l.rows l.simplex.places ++ l.others)) l.told_before (l.place + 1)
      ((goal.Watch-dyn g (l.fn.watch.vtable, l.fn.watch.value)).seen l.fn.watch.value)
      ((goal.Watch-dyn g (l.watch.vtable, l.watch.value)).seen l.watch.value) false;
}
