use Rattle.std.proofs.Common.{take, length}
use Rattle.nz_cert.proofs.OrderLemmas.{AreMarked}
use Rattle.nz_cert.proofs.order.has_each_once.Given as goal

abbrev pub invariant-loop-index : goal.invariant-loop-index
invariant-loop-index l = AreMarked (length l.places) (take l.index l.places) l.marks.items
