-- What a run leaves, status by status.
use Rattle.std.specs.Prelude.{◌≡◌, ◌⊎◌, ℕ, ◌+◌, ◌<◌, ◌≤◌, ◌++◌, List, length, take, Option, Some, None, IfSome, IsSome}
use Rattle.nz_vec.specs.Texts.{Text}
use Rattle.nz_input.specs.Files.{FileData}
use Rattle.nz_input.specs.declared.kind.Goal.{Goal}
use Rattle.nz_input.specs.Texts.{IsTextOf}
use Rattle.nz_input.specs.Refusals.{IsRefusedAt}
use Rattle.nz_edge.specs.Folders.{Files, SameFiles, SameOthers, Stores}
use Rattle.nz_watch.specs.Counts.{IsQuiet, Rose}
use Rattle.nz_watch.specs.Telling.{Watched}
use Rattle.nz_words.specs.Orders.{OrderData, IsOrder, AreRefused, input_name}
use Rattle.nz_run.specs.Kinds.{kind_for, ending_of, IsFileFound, IsCauseIn}
use Rattle.nz_run.specs.Watches.{WasToldNothing}
use Rattle.nz_run.specs.declared.kinds.RunKind.{RunKind}
use Rattle.nz_run.specs.declared.kinds.RunKind.TheVariants.{Plain, Convert, Units, LatticePoints}
use Rattle.nz_input.specs.Canonical.{canonical}
use Rattle.nz_make.specs.Squares.{made_file}
use Rattle.nz_run.specs.declared.status.Status.{Status}
use Rattle.nz_run.specs.declared.status.Status.TheVariants.{Done, Usage, Absent, ReadFault, TooLong, Grammar, Meaning, Line, Grade, Range, TooMany, Stopped, WriteFault, NoMemory, Converted, UnitsDone, Points, Unbounded}

-- the file that a run of this kind stores
abbrev pub output_name : OrderData → RunKind → Text
output_name order kind = order.project ++ ending_of kind

-- the most bytes of an input
abbrev pub most : ℕ
most = 16777216

-- what the folder tells of the project's file, cut after the first byte that is too many
pub record IsLoaded (project : Text) (files : Files) (input : Text) : Type 0 where
  pub whole : Text
  pub there : files (input_name project) ≡ Some whole
  pub cut : input ≡ take (most + 1) whole

-- the input of a run: the canonical text of the file that is made for a side, and else what is loaded
abbrev pub IsInput : Option ℕ → Text → Files → Text → Type 0
IsInput None project files input = IsLoaded project files input
IsInput (Some n) project files input = input ≡ canonical (made_file n)

-- the side is one that a file can be made for
abbrev pub IsSideOf : Option ℕ → Type 0
IsSideOf side = IfSome side (λ n. (1 ≤ n) × (n ≤ 150))

-- the bytes of the input are not too many
abbrev pub IsShort : Text → Type 0
IsShort input = length input ≤ most

-- ---- what a run finds

-- the input is a text of a file, and the output is what a run of the kind finds for that
pub record IsFound (kind : RunKind) (goals : List Goal) (limit : ℕ) (before now : Watched) (input output : Text) : Type 0 where
  pub file : FileData
  pub short : IsShort input
  pub read : IsTextOf input file
  pub found : IsFileFound kind goals limit before now file output

-- the run that is ordered is of this kind on the file of which the input is a text, and the output is what it finds for that
pub record IsFoundFor (order : OrderData) (kind : RunKind) (before now : Watched) (input output : Text) : Type 0 where
  pub found : IsFound kind order.goals order.limit before now input output
  pub of_kind : kind_for order found.file ≡ kind

-- the input is a text of a file that is the cause of the status of the run that is ordered
pub record IsReadCause (order : OrderData) (before now : Watched) (input : Text) (status : Status) : Type 0 where
  pub file : FileData
  pub short : IsShort input
  pub read : IsTextOf input file
  pub cause : IsCauseIn (kind_for order file) order.goals order.limit before now file status

-- the input is the cause of the status of the run that is ordered, or memory ran out: before a stage was told, or among the stages of the file's system
abbrev pub IsCause : OrderData → (before now : Watched) → Text → Status → Type 0
IsCause order before now input TooLong = (most < length input) × WasToldNothing before now
IsCause order before now input (Grammar l c f) = IsShort input × IsRefusedAt input l c f × WasToldNothing before now
IsCause order before now input (Meaning i r f) = IsReadCause order before now input (Meaning i r f)
IsCause order before now input (Line v) = IsReadCause order before now input (Line v)
IsCause order before now input (Grade v) = IsReadCause order before now input (Grade v)
IsCause order before now input (Unbounded v) = IsReadCause order before now input (Unbounded v)
IsCause order before now input Range = IsReadCause order before now input Range
IsCause order before now input TooMany = IsReadCause order before now input TooMany
IsCause order before now input (Stopped k) = IsReadCause order before now input (Stopped k)
IsCause order before now input NoMemory = WasToldNothing before now ⊎ IsReadCause order before now input NoMemory
IsCause order before now input Done = ⊥
IsCause order before now input Usage = ⊥
IsCause order before now input Absent = ⊥
IsCause order before now input ReadFault = ⊥
IsCause order before now input WriteFault = ⊥
IsCause order before now input Converted = ⊥
IsCause order before now input UnitsDone = ⊥
IsCause order before now input Points = ⊥

-- ---- what a run leaves

-- the run that is ordered is of this kind on the input's file, and what it finds is stored
abbrev pub HasStored : RunKind → OrderData → (before now : Watched) → (input : Text) → Files → Files → Type 0
HasStored kind order before now input old new = (output : Text) × IsFoundFor order kind before now input output × Stores (output_name order kind) output old new

-- what the status of a run that is ordered says of the input and of the files before and after
abbrev pub Leaves : OrderData → (before now : Watched) → (input : Text) → Status → Files → Files → Type 0
Leaves order before now input Done old new = HasStored Plain order before now input old new
Leaves order before now input Converted old new = HasStored Convert order before now input old new
Leaves order before now input UnitsDone old new = HasStored Units order before now input old new
Leaves order before now input Points old new = HasStored LatticePoints order before now input old new
Leaves order before now input WriteFault old new = (kind : RunKind) × (output : Text) × IsFoundFor order kind before now input output × SameOthers (output_name order kind) old new
Leaves order before now input status old new = IsCause order before now input status × SameFiles old new

-- memory ran out in the run that is ordered, as its input was read or after
abbrev pub RanOut : OrderData → (before now : Watched) → Files → Type 0
RanOut order before now old = (input : Text) × IsInput order.make order.project old input × IsReadCause order before now input NoMemory

-- what the status of a run that is ordered says of the files; the counts of faults tell whether reading had one
abbrev pub ExplainsOrder : OrderData → (before now : Watched) → (faults faults' : ℕ) → Status → Files → Files → Type 0
ExplainsOrder order before now faults faults' Usage old new = ⊥
ExplainsOrder order before now faults faults' Absent old new = (order.make ≡ None) × (IsQuiet faults faults' → old (input_name order.project) ≡ None) × SameFiles old new
ExplainsOrder order before now faults faults' ReadFault old new = (order.make ≡ None) × SameFiles old new
ExplainsOrder order before now faults faults' NoMemory old new = SameFiles old new × (WasToldNothing before now ⊎ RanOut order before now old)
ExplainsOrder order before now faults faults' status old new = (input : Text) × IsInput order.make order.project old input × Leaves order before now input status old new

-- what the status of a run says of the words, the files and the watch
abbrev pub Explains : List Text → (before now : Watched) → (faults faults' : ℕ) → Status → Files → Files → Type 0
Explains words before now faults faults' Usage old new = AreRefused words × SameFiles old new
Explains words before now faults faults' NoMemory old new = SameFiles old new × (WasToldNothing before now ⊎ ((order : OrderData) × IsOrder words order × ExplainsOrder order before now faults faults' NoMemory old new))
Explains words before now faults faults' status old new = (order : OrderData) × IsOrder words order × ExplainsOrder order before now faults faults' status old new

-- the folder is not asked for an input, and so counts no fault and no miss, where a file is made in its place
abbrev pub IsUnasked : Option ℕ → (faults faults' misses misses' : ℕ) → Type 0
IsUnasked side faults faults' misses misses' = IsSome side → (faults' ≡ faults) × (misses' ≡ misses)

-- the same for what the words order
abbrev pub AreUnasked : List Text → (faults faults' misses misses' : ℕ) → Type 0
AreUnasked words faults faults' misses misses' = (order : OrderData) → IsOrder words order → IsUnasked order.make faults faults' misses misses'

-- the status is this one, unless memory ran out
abbrev pub Decided : Status → Status → Type 0
Decided status this = (status ≡ this) ⊎ (status ≡ NoMemory)

-- the count that explains a status rose: that of faults, of misses or of stores that failed
abbrev pub CountRose : Status → ℕ → ℕ → ℕ → ℕ → ℕ → ℕ → Type 0
CountRose Absent faults faults' misses misses' stores stores' = Rose misses misses'
CountRose ReadFault faults faults' misses misses' stores stores' = Rose faults faults'
CountRose WriteFault faults faults' misses misses' stores stores' = Rose stores stores'
CountRose status faults faults' misses misses' stores stores' = Unit {0}

-- after the input was loaded, the one fault is that of the store
abbrev pub StoreCount : Status → ℕ → ℕ → Type 0
StoreCount Usage before now = ⊥
StoreCount Absent before now = ⊥
StoreCount ReadFault before now = ⊥
StoreCount WriteFault before now = Rose before now
StoreCount status before now = Unit {0}
