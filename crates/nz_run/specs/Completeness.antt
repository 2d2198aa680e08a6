-- Which runs end with Done, Converted, UnitsDone, Points or Unbounded, unless memory runs out.
use Rattle.std.specs.Prelude.{◌≡◌, ◌⊎◌, ℕ, List}
use Rattle.nz_vec.specs.Texts.{Text}
use Rattle.nz_spec.specs.Vectors.{Vector}
use Rattle.nz_spec.specs.Systems.{System, IsMember}
use Rattle.nz_spec.specs.Monoids.{IsPositive}
use Rattle.nz_measures.specs.Crowds.{IsPrimalCrowdAbove}
use Rattle.nz_input.specs.Files.{FileData}
use Rattle.nz_input.specs.Texts.{IsTextOf}
use Rattle.nz_input.specs.declared.kind.Goal.{Goal}
use Rattle.nz_input.specs.declared.kind.Mode.{Mode}
use Rattle.nz_input.specs.declared.kind.Mode.TheVariants.{Primal, Dual}
use Rattle.nz_system.specs.Meaning.{SystemData}
use Rattle.nz_frame.specs.Elements.{IsGraded}
use Rattle.nz_frame.specs.DualCrowds.{IsDualCrowd}
use Rattle.nz_solve.specs.Solutions.{IsReachAbove, half}
use Rattle.nz_edge.specs.Folders.{Files}
use Rattle.nz_watch.specs.Counts.{IsQuiet}
use Rattle.nz_watch.specs.Telling.{Watched}
use Rattle.nz_words.specs.Orders.{OrderData, IsOrder}
use Rattle.nz_ideal.specs.Meanings.{system_of, meaning, HasMeaning}
use Rattle.nz_units.specs.SystemRefusals.{IsUnitReachAbove, IsUnitCrowdAbove}
use Rattle.nz_further.specs.Shadows.{IsBounded}
use Rattle.nz_lift.specs.SystemRefusals.{IsPointReachAbove, IsPointCrowdAbove}
use Rattle.nz_run.specs.declared.status.Status.{Status}
use Rattle.nz_run.specs.declared.status.Status.TheVariants.{Done, Converted, UnitsDone, Points, Unbounded, NoMemory}
use Rattle.nz_run.specs.declared.kinds.RunKind.TheVariants.{Plain, Convert, Units, LatticePoints}
use Rattle.nz_run.specs.Kinds.{kind_for}
use Rattle.nz_run.specs.Runs.{IsInput, IsShort, Explains, CountRose, Decided}
use Rattle.nz_run.specs.Watches.{WatchSays}

-- what the algorithm of the mode has to hold at once is more than n vectors
abbrev pub IsCrowdAbove : Mode → System → ℕ → Type 0
IsCrowdAbove Primal s n = IsPrimalCrowdAbove s n
IsCrowdAbove Dual s n = (passed : ℕ) × IsDualCrowd s n passed

-- there is no line, and no degree of 0 or less; the numbers of the algorithm are small enough for the program's integers, and its lists for the limit
pub record IsAnswerable (s : SystemData) (limit : ℕ) : Type 0 where
  pub positive : IsPositive (IsMember s.system)
  pub graded : IsGraded s.system
  pub small : ¬ IsReachAbove s.mode s.system half
  pub few : ¬ IsCrowdAbove s.mode s.system limit

-- the input is a text, not too long, of a file that breaks no rule of meaning, and whose system can be answered
pub record IsValidInput (goals : List Goal) (limit : ℕ) (input : Text) : Type 0 where
  pub file : FileData
  pub short : IsShort input
  pub read : IsTextOf input file
  pub ready : HasMeaning file goals
  pub answerable : IsAnswerable (meaning file goals) limit

-- the words order a plain run, and the input of that is valid
pub record IsValidRun (words : List Text) (files : Files) : Type 0 where
  pub order : OrderData
  pub ordered : IsOrder words order
  pub input : Text
  pub loaded : IsInput order.make order.project files input
  pub valid : IsValidInput order.goals order.limit input
  pub plain : kind_for order valid.file ≡ Plain

-- the words order a conversion, and its input is a text, not too long, of a file
pub record IsValidConversion (words : List Text) (files : Files) : Type 0 where
  pub order : OrderData
  pub ordered : IsOrder words order
  pub input : Text
  pub loaded : IsInput order.make order.project files input
  pub short : IsShort input
  pub file : FileData
  pub read : IsTextOf input file
  pub converts : kind_for order file ≡ Convert

-- the words order a run that lists units, and its input is a text, not too long, of a file that breaks no rule of meaning, whose numbers are small enough and whose lists are short enough
pub record IsValidListing (words : List Text) (files : Files) : Type 0 where
  pub order : OrderData
  pub ordered : IsOrder words order
  pub input : Text
  pub loaded : IsInput order.make order.project files input
  pub short : IsShort input
  pub file : FileData
  pub read : IsTextOf input file
  pub lists : kind_for order file ≡ Units
  pub ready : HasMeaning file order.goals
  pub small : ¬ IsUnitReachAbove (system_of file) half
  pub few : ¬ IsUnitCrowdAbove (system_of file) order.limit

-- the words order a run that lists lattice points, and its input is a text, not too long, of a file that breaks no rule of meaning, whose numbers are small enough and whose shadows for the limit
pub record IsValidPointRun (words : List Text) (files : Files) : Type 0 where
  pub order : OrderData
  pub ordered : IsOrder words order
  pub input : Text
  pub loaded : IsInput order.make order.project files input
  pub short : IsShort input
  pub file : FileData
  pub read : IsTextOf input file
  pub points : kind_for order file ≡ LatticePoints
  pub ready : HasMeaning file order.goals
  pub small : ¬ IsPointReachAbove (system_of file) half
  pub few : ¬ IsPointCrowdAbove (system_of file) order.limit

-- the folder counts no fault and no failed store, and the watch no stop
pub record IsUndisturbed (faults faults' stores stores' : ℕ) (before now : Watched) : Type 0 where
  pub loads : IsQuiet faults faults'
  pub keeps : IsQuiet stores stores'
  pub goes_on : IsQuiet before.stops now.stops

-- what the clauses of `run` on the outcome, the counts and the watch say together of its status
pub record IsRunStatus (words : List Text) (old new : Files) (faults faults' misses misses' stores stores' : ℕ) (before now : Watched) (status : Status) : Type 0 where
  pub outcome : Explains words before now faults faults' status old new
  pub count : CountRose status faults faults' misses misses' stores stores'
  pub watch : WatchSays status before now

-- a valid run that nothing disturbs ends with Done, unless memory runs out
abbrev pub ValidRunsAreAnswered : Type 0
ValidRunsAreAnswered = (words : List Text) (old new : Files) (faults faults' misses misses' stores stores' : ℕ) (before now : Watched) (status : Status)
    → IsValidRun words old → IsUndisturbed faults faults' stores stores' before now → IsRunStatus words old new faults faults' misses misses' stores stores' before now status → Decided status Done

-- a valid conversion that nothing disturbs ends with Converted, unless memory runs out
abbrev pub ConversionsAreAnswered : Type 0
ConversionsAreAnswered = (words : List Text) (old new : Files) (faults faults' misses misses' stores stores' : ℕ) (before now : Watched) (status : Status)
    → IsValidConversion words old → IsUndisturbed faults faults' stores stores' before now → IsRunStatus words old new faults faults' misses misses' stores stores' before now status → Decided status Converted

-- a valid run that lists units and that nothing disturbs ends with UnitsDone, unless memory runs out
abbrev pub ListingsAreAnswered : Type 0
ListingsAreAnswered = (words : List Text) (old new : Files) (faults faults' misses misses' stores stores' : ℕ) (before now : Watched) (status : Status)
    → IsValidListing words old → IsUndisturbed faults faults' stores stores' before now → IsRunStatus words old new faults faults' misses misses' stores stores' before now status → Decided status UnitsDone

-- a valid run that lists lattice points and that nothing disturbs ends, unless memory runs out, with Points where its system is bounded
abbrev pub PointsAreAnswered : Type 0
PointsAreAnswered = (words : List Text) (old new : Files) (faults faults' misses misses' stores stores' : ℕ) (before now : Watched) (status : Status)
    → (valid : IsValidPointRun words old) → IsBounded (IsMember (system_of valid.file)) → IsUndisturbed faults faults' stores stores' before now → IsRunStatus words old new faults faults' misses misses' stores stores' before now status → Decided status Points

-- and with Unbounded where it is not
abbrev pub UnboundedAreAnswered : Type 0
UnboundedAreAnswered = (words : List Text) (old new : Files) (faults faults' misses misses' stores stores' : ℕ) (before now : Watched) (status : Status)
    → (valid : IsValidPointRun words old) → ¬ IsBounded (IsMember (system_of valid.file)) → IsUndisturbed faults faults' stores stores' before now → IsRunStatus words old new faults faults' misses misses' stores stores' before now status → ((v : Vector) × (status ≡ Unbounded v)) ⊎ (status ≡ NoMemory)
