use Rattle.std.proofs.Common.{◌≡◌, take}
use Rattle.std.specs.List.{AllByRecursion as Each}
use Rattle.nz_spec.specs.Systems.{IsMultipleBy}
use Rattle.nz_sweep.specs.Cuts.{IsCut}
use Rattle.nz_measures.specs.Sweeps.{Sweeps, CongruenceMove}
use Rattle.nz_system.specs.Meaning.{congruences_of}
use Rattle.nz_frame.proofs.lattices.with_congruences.Given as goal

abbrev pub invariant-loop-place : goal.invariant-loop-place
invariant-loop-place g l = (l.base.width ≡ l.initial.base.width) × IsCut (λ x. Each (λ c. IsMultipleBy c x) (congruences_of (take l.place l.constraints))) l.initial.base.width l.initial.base.vectors l.base.vectors × Sweeps CongruenceMove (congruences_of (take l.place l.constraints)) l.initial.base l.base
