use Rattle.std.proofs.Common.{◌≡◌, ◌∷◌, take}
use Rattle.nz_ideal.specs.IdealFiles.{vertex_item, unit_item, exponents, staying}
use Rattle.nz_ideal.proofs.files.ideal_items.Given as goal

abbrev pub invariant-loop-place : goal.invariant-loop-place
invariant-loop-place l = l.list ≡ vertex_item (exponents l.items) ∷ unit_item l.amb ∷ staying (take l.place l.items)
