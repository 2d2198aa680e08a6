use Rattle.std.proofs.lemmas.Bool.{false≢true}
use Rattle.nz_sweep.proofs.floors.floor.Goals as goal

pub unreachable-requires : goal.unreachable-requires
unreachable-requires g c = false≢true (c.in-None.ensures.some c.requires)
