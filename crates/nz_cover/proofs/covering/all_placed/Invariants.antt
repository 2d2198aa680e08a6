use Rattle.nz_cover.specs.Placed.{ArePlacedUpTo}
use Rattle.nz_cover.specs.Passing.{IsToldUpTo}
use Rattle.nz_cover.proofs.covering.all_placed.Given as goal

abbrev pub invariant-loop-place : goal.invariant-loop-place
invariant-loop-place g l = ArePlacedUpTo l.width l.rays l.place l.placing.placed l.placing.cells.items l.placing.facets × IsToldUpTo l.width l.rays l.told_before l.place l.placing.placed l.passed
    ((goal.Watch-dyn g (l.fn.watch.vtable, l.fn.watch.value)).seen l.fn.watch.value)
    ((goal.Watch-dyn g (l.watch.vtable, l.watch.value)).seen l.watch.value)
