-- What refuses the system of a file in a run that tells its watch nothing.
use Rattle.std.specs.Prelude.{List}
use Rattle.nz_vec.specs.declared.answers.Work.{Work}
use Rattle.nz_vec.specs.declared.answers.Work.TheVariants as work
use Rattle.nz_spec.specs.Systems.{System}
use Rattle.nz_input.specs.Files.{FileData}
use Rattle.nz_input.specs.declared.kind.Goal.{Goal}
use Rattle.nz_ideal.specs.Meanings.{system_of, HasMeaning}
use Rattle.nz_watch.specs.Telling.{Watched}
use Rattle.nz_run.specs.Watches.{WasToldNothing}
use Rattle.nz_run.specs.declared.status.Status.{Status}
use Rattle.nz_run.specs.declared.status.Status.TheVariants.{Range, TooMany, Stopped, NoMemory}

-- the file breaks no rule of meaning, this holds of its system, and the watch was told nothing
pub record IsOfSystem (goals : List Goal) (before now : Watched) (file : FileData) (Cause : System → Type 0) : Type 0 where
  pub ready : HasMeaning file goals
  pub cause : Cause (system_of file)
  pub told : WasToldNothing before now

-- the status of a refusal; none of those that come here is Stopped
abbrev pub status_of_work : Work → Status
status_of_work (work.Range told) = Range
status_of_work work.TooMany = TooMany
status_of_work (work.Stopped k) = Stopped k
status_of_work work.NoMemory = NoMemory
