use Rattle.nz_rays.specs.Words.{AreBusy}
use Rattle.nz_rays.proofs.words.busy_places.Given as goal

abbrev pub invariant-loop-place : goal.invariant-loop-place
invariant-loop-place l = AreBusy l.columns l.place l.needed l.busy
