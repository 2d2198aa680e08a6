-- A run that lists units: what it finds for a file, and what refuses it.
use Rattle.std.specs.Prelude.{◌≡◌, ℕ, Bool, true, false, List, [], ◌++◌, codes, Err}
use Rattle.nz_vec.specs.Texts.{Text}
use Rattle.nz_spec.specs.Vectors.{Vector}
use Rattle.nz_input.specs.Files.{FileData}
use Rattle.nz_input.specs.declared.kind.Goal.{Goal}
use Rattle.nz_system.specs.declared.refusal.SystemRefusal.TheVariants as refusal
use Rattle.nz_ideal.specs.Meanings.{system_of, HasMeaning, IsMeaningOf}
use Rattle.nz_units.specs.SystemUnits.{AreSystemUnits}
use Rattle.nz_units.specs.SystemRefusals.{IsUnitReachAbove, IsUnitCrowdAbove}
use Rattle.nz_blocks.specs.Output.{space_lines, block}
use Rattle.nz_watch.specs.Telling.{Watched}
use Rattle.nz_solve.specs.Solutions.{half}
use Rattle.nz_run.specs.Watches.{WasToldNothing}
use Rattle.nz_run.specs.SystemCauses.{IsOfSystem}
use Rattle.nz_run.specs.declared.status.Status.{Status}
use Rattle.nz_run.specs.declared.status.Status.TheVariants.{Meaning, Range, TooMany, NoMemory}

-- the block of the representatives of level 1, where there is a level
abbrev pub module_block : Bool → List Vector → Text
module_block true modules = block (codes " module representatives:") modules
module_block false modules = []

-- the text of the units, and of one vector for each irreducible class
abbrev pub units_text : ℕ → Bool → (units modules classes : List Vector) → Text
units_text amb level units modules classes = space_lines amb level ++ block (codes " unit vectors:") units ++ module_block level modules ++ block (codes " irreducible representatives:") classes

-- the output is the text of the units and the representatives of the file's system, no more of these than the limit; the watch was told nothing
pub record AreUnitsFound (goals : List Goal) (limit : ℕ) (before now : Watched) (file : FileData) (output : Text) : Type 0 where
  pub ready : HasMeaning file goals
  pub units : List Vector
  pub modules : List Vector
  pub classes : List Vector
  pub lists : AreSystemUnits limit (system_of file) units modules classes
  pub same : output ≡ units_text file.amb (system_of file).level units modules classes
  pub told : WasToldNothing before now

-- the file is the cause of the status of a run that lists units; memory may run out
abbrev pub IsUnitsCause : List Goal → (limit : ℕ) → (before now : Watched) → FileData → Status → Type 0
IsUnitsCause goals limit before now file (Meaning i r f) = IsMeaningOf file goals (Err (refusal.Meaning i r f)) × WasToldNothing before now
IsUnitsCause goals limit before now file Range = IsOfSystem goals before now file (λ s. IsUnitReachAbove s half)
IsUnitsCause goals limit before now file TooMany = IsOfSystem goals before now file (λ s. IsUnitCrowdAbove s limit)
IsUnitsCause goals limit before now file NoMemory = WasToldNothing before now
IsUnitsCause goals limit before now file status = ⊥
