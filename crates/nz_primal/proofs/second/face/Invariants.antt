use Rattle.std.proofs.Common.{◌≡◌, take}
use Rattle.nz_measures.specs.Sweeps.{Sweeps, whole_base}
use Rattle.nz_primal.specs.Second.{IsFaceBase}
use Rattle.nz_primal.specs.Parts.{MoveOn}
use Rattle.nz_primal.proofs.second.face.Given as goal

abbrev pub invariant-loop-place : goal.invariant-loop-place
invariant-loop-place g l = (l.base.width ≡ l.width) × IsFaceBase l.width (take l.place l.rows) l.rays l.base.vectors × Sweeps (MoveOn l.rays) (take l.place l.rows) (whole_base l.width) l.base
