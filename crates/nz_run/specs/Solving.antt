-- A plain run: what it finds for a file, and what refuses it.
use Rattle.std.specs.Prelude.{◌≡◌, ◌⊎◌, ℕ, List, Err}
use Rattle.nz_vec.specs.Texts.{Text}
use Rattle.nz_input.specs.Files.{FileData}
use Rattle.nz_input.specs.declared.kind.Goal.{Goal}
use Rattle.nz_system.specs.Meaning.{SystemData}
use Rattle.nz_system.specs.declared.refusal.SystemRefusal.TheVariants as refusal
use Rattle.nz_blocks.specs.Outcomes.{OutcomeData}
use Rattle.nz_blocks.specs.Output.{text_of}
use Rattle.nz_watch.specs.Telling.{Watched, HasPassedAll}
use Rattle.nz_frame.specs.Elements.{IsWithin}
use Rattle.nz_solve.specs.Solutions.{IsSolution, AreToldOf, IsSolveRefusal}
use Rattle.nz_solve.specs.declared.refusal.SolveRefusal.{SolveRefusal}
use Rattle.nz_solve.specs.declared.refusal.SolveRefusal.TheVariants as solve
use Rattle.nz_ideal.specs.Meanings.{system_of, meaning, HasMeaning, IsMeaningOf}
use Rattle.nz_run.specs.Watches.{WasToldNothing}
use Rattle.nz_run.specs.declared.status.Status.{Status}
use Rattle.nz_run.specs.declared.status.Status.TheVariants.{Meaning, Line, Grade, Range, TooMany, Stopped, NoMemory}

-- the output is the text of exactly what is asked of the system, which has no line and no degree of 0 or less; its irreducible elements are no more than the limit
pub record IsAnswered (s : SystemData) (limit : ℕ) (output : Text) : Type 0 where
  pub outcome : OutcomeData
  pub solution : IsSolution s outcome
  pub within : IsWithin s.system limit
  pub same : output ≡ text_of outcome

-- the output answers what file and words ask, and the watch was told all stages of the file's system, in the mode of file and words
pub record IsFileSolved (goals : List Goal) (limit : ℕ) (before now : Watched) (file : FileData) (output : Text) : Type 0 where
  pub ready : HasMeaning file goals
  pub answered : IsAnswered (meaning file goals) limit output
  pub told : HasPassedAll (AreToldOf (meaning file goals).mode (system_of file)) 0 before now

-- the file breaks no rule of meaning, and its system is refused, with what the watch was told
pub record IsUnsolved (goals : List Goal) (limit : ℕ) (before now : Watched) (file : FileData) (r : SolveRefusal) : Type 0 where
  pub ready : HasMeaning file goals
  pub refused : IsSolveRefusal (meaning file goals).mode (system_of file) limit before now r

-- the status of a refusal
abbrev pub status_of : SolveRefusal → Status
status_of (solve.Line v) = Line v
status_of (solve.Grade v) = Grade v
status_of solve.Range = Range
status_of solve.TooMany = TooMany
status_of (solve.Stopped k) = Stopped k
status_of solve.NoMemory = NoMemory

-- the file is the cause of the status, where the words name these goals; memory may run out before a stage was told, or among the stages
abbrev pub IsSolveCause : List Goal → (limit : ℕ) → (before now : Watched) → FileData → Status → Type 0
IsSolveCause goals limit before now file (Meaning i r f) = IsMeaningOf file goals (Err (refusal.Meaning i r f)) × WasToldNothing before now
IsSolveCause goals limit before now file (Line v) = IsUnsolved goals limit before now file (solve.Line v)
IsSolveCause goals limit before now file (Grade v) = IsUnsolved goals limit before now file (solve.Grade v)
IsSolveCause goals limit before now file Range = IsUnsolved goals limit before now file solve.Range
IsSolveCause goals limit before now file TooMany = IsUnsolved goals limit before now file solve.TooMany
IsSolveCause goals limit before now file (Stopped k) = IsUnsolved goals limit before now file (solve.Stopped k)
IsSolveCause goals limit before now file NoMemory = WasToldNothing before now ⊎ IsUnsolved goals limit before now file solve.NoMemory
IsSolveCause goals limit before now file status = ⊥
