use Rattle.nz_sweep.specs.Duals.{IsGathered}
use Rattle.nz_sweep.specs.Rounds.{Gathers}
use Rattle.nz_sweep.proofs.gathering.gathered.Given as goal

abbrev pub invariant-loop-index : goal.invariant-loop-index
invariant-loop-index g l = IsGathered l.width l.list l.place l.index l.own × Gathers (record { valued = l.list; coordinates = l.coordinates }) l.place l.index l.own
