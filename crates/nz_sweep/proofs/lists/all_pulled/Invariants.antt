use Rattle.std.proofs.Common.{◌≡◌, take, map}
use Rattle.nz_linear.specs.Coordinates.{in_coordinates}
use Rattle.nz_sweep.proofs.lists.all_pulled.Given as goal

abbrev pub invariant-loop-place : goal.invariant-loop-place
invariant-loop-place g l = l.list ≡ take l.place (map (λ h. in_coordinates l.base.vectors h) l.forms)
