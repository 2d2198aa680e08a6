use Rattle.std.proofs.Common.{◌≡◌, ◌++◌, take}
use Rattle.nz_frame.specs.Constraining.{congruences_in}
use Rattle.nz_frame.proofs.constraining.append_congruences.Given as goal

abbrev pub invariant-loop-place : goal.invariant-loop-place
invariant-loop-place g l = l.list ≡ l.initial.list ++ congruences_in (take l.place l.others)
