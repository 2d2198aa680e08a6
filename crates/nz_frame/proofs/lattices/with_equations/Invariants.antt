use Rattle.std.proofs.Common.{◌≡◌, take, pos}
use Rattle.std.specs.List.{AllByRecursion as Each}
use Rattle.nz_spec.specs.Vectors.{dot}
use Rattle.nz_sweep.specs.Cuts.{IsCut}
use Rattle.nz_sweep.specs.Rounds.{IsEquationMove}
use Rattle.nz_measures.specs.Sweeps.{Sweeps}
use Rattle.nz_frame.proofs.lattices.with_equations.Given as goal

abbrev pub invariant-loop-place : goal.invariant-loop-place
invariant-loop-place g l = (l.base.width ≡ l.initial.base.width) × IsCut (λ x. Each (λ f. dot f x ≡ pos 0) (take l.place l.forms)) l.initial.base.width l.initial.base.vectors l.base.vectors × Sweeps IsEquationMove (take l.place l.forms) l.initial.base l.base
