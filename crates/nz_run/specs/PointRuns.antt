-- A run that lists lattice points: what it finds for a file, and what refuses it.
use Rattle.std.specs.Prelude.{◌≡◌, ℕ, Bool, List, ◌++◌, codes, Err}
use Rattle.nz_vec.specs.Texts.{Text}
use Rattle.nz_spec.specs.Vectors.{Vector}
use Rattle.nz_input.specs.Files.{FileData}
use Rattle.nz_input.specs.declared.kind.Goal.{Goal}
use Rattle.nz_system.specs.declared.refusal.SystemRefusal.TheVariants as refusal
use Rattle.nz_ideal.specs.Meanings.{system_of, HasMeaning, IsMeaningOf}
use Rattle.nz_lift.specs.SystemPoints.{ArePointsOf, IsAlong}
use Rattle.nz_lift.specs.SystemRefusals.{IsPointReachAbove, IsPointCrowdAbove}
use Rattle.nz_blocks.specs.Output.{space_lines, block}
use Rattle.nz_watch.specs.Telling.{Watched}
use Rattle.nz_solve.specs.Solutions.{half}
use Rattle.nz_run.specs.Watches.{WasToldNothing}
use Rattle.nz_run.specs.SystemCauses.{IsOfSystem}
use Rattle.nz_run.specs.declared.status.Status.{Status}
use Rattle.nz_run.specs.declared.status.Status.TheVariants.{Meaning, Range, TooMany, NoMemory, Unbounded}

-- the text of the lattice points
abbrev pub points_text : ℕ → Bool → List Vector → Text
points_text amb level points = space_lines amb level ++ block (codes " lattice points:") points

-- the file's system is bounded, the output is the text of its lattice points, no more than the limit, and the watch was told nothing
pub record ArePointsFound (goals : List Goal) (limit : ℕ) (before now : Watched) (file : FileData) (output : Text) : Type 0 where
  pub ready : HasMeaning file goals
  pub points : List Vector
  pub are : ArePointsOf limit (system_of file) points
  pub same : output ≡ points_text file.amb (system_of file).level points
  pub told : WasToldNothing before now

-- the file is the cause of the status of a run that lists lattice points; memory may run out
abbrev pub IsPointsCause : List Goal → (limit : ℕ) → (before now : Watched) → FileData → Status → Type 0
IsPointsCause goals limit before now file (Meaning i r f) = IsMeaningOf file goals (Err (refusal.Meaning i r f)) × WasToldNothing before now
IsPointsCause goals limit before now file (Unbounded v) = IsOfSystem goals before now file (λ s. IsAlong s v)
IsPointsCause goals limit before now file Range = IsOfSystem goals before now file (λ s. IsPointReachAbove s half)
IsPointsCause goals limit before now file TooMany = IsOfSystem goals before now file (λ s. IsPointCrowdAbove s limit)
IsPointsCause goals limit before now file NoMemory = WasToldNothing before now
IsPointsCause goals limit before now file status = ⊥
