use Rattle.std.proofs.Common.{length}
use Rattle.nz_dual.proofs.OrderLemmas.{IsSplitUpTo}
use Rattle.nz_dual.proofs.ordering.other_rows.Given as goal

abbrev pub invariant-loop-place : goal.invariant-loop-place
invariant-loop-place g l = IsSplitUpTo (length l.places) l.rows l.places l.place l.next l.others
