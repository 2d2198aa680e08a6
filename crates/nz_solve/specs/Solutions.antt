-- What a solved system answers, in both modes, and why there is no outcome.
use Rattle.std.specs.Prelude.{◌≡◌, ◌⊎◌, ⊤, Option, Some, None, ◌<◌, ◌^◌, ◌&&◌, ◌||◌, is_some, ℕ, ℤ, pos, Bool, false, List, []}
use Rattle.nz_spec.specs.Vectors.{Vector}
use Rattle.nz_spec.specs.Systems.{System, IsMember, file_width}
use Rattle.nz_spec.specs.Monoids.{IsPositive, IsLeastLine}
use Rattle.nz_spec.specs.Elements.{IsHilbertBasis, AreModuleGenerators, AreRays, AreVertices, IsSupportDescription, IsCoverOf, IsFirstNotPositive}
use Rattle.nz_spec.specs.Stages.{ArePrimalStages, AreDualStages, AreTold}
use Rattle.nz_further.specs.Denominators.{IsDenominator, AreDegreeOneElements}
use Rattle.nz_watch.specs.Watching.{Pair}
use Rattle.nz_watch.specs.Telling.{Watched, WasTold, HasPassed, HasPassedAll, HasStopped, HasLeft}
use Rattle.nz_measures.specs.Crowds.{IsPrimalCrowdAbove}
use Rattle.nz_measures.specs.Reaches.{IsPrimalReachAbove, IsDualReachAbove}
use Rattle.nz_input.specs.declared.kind.Mode.{Mode}
use Rattle.nz_input.specs.declared.kind.Mode.TheVariants.{Primal, Dual}
use Rattle.nz_system.specs.Meaning.{SystemData}
use Rattle.nz_blocks.specs.Outcomes.{OutcomeData}
use Rattle.nz_frame.specs.Elements.{IsGraded}
use Rattle.nz_frame.specs.DualCrowds.{IsDualCrowd}
use Rattle.nz_solve.specs.Replies.{IsWhere, AreWhere, AreAnswered}
use Rattle.nz_solve.specs.declared.refusal.SolveRefusal.{SolveRefusal}
use Rattle.nz_solve.specs.declared.refusal.SolveRefusal.TheVariants.{Line, Grade, Range, TooMany, Stopped, NoMemory}
use Rattle.nz_solve.specs.declared.refusal.InnerRefusal.{InnerRefusal}
use Rattle.nz_solve.specs.declared.refusal.InnerRefusal.TheVariants as inner

-- the Hilbert basis is wanted where its goal is on, or vectors are asked
abbrev pub wants_basis : SystemData → Bool
wants_basis s = s.goals.hilbert || is_some s.system.asked

-- the module generators where there is a level, and one of the goals is on or vectors are asked
abbrev pub wants_modules : SystemData → Bool
wants_modules s = s.system.level && (s.goals.modules || wants_basis s)

-- the vertices where there is a level
abbrev pub wants_vertices : SystemData → Bool
wants_vertices s = s.goals.rays && s.system.level

-- g is the denominator of the degrees of the Hilbert basis
pub record DividesDegrees (s : System) (grading : Vector) (g : ℤ) : Type 0 where
  pub basis : List Vector
  pub is_basis : IsHilbertBasis s basis
  pub denominator : IsDenominator grading basis g

-- where a grading is given there is the denominator of its degrees, and else none
abbrev pub HasDenominator : System → Option Vector → Option ℤ → Type 0
HasDenominator s None o = o ≡ None
HasDenominator s (Some grading) None = ⊥
HasDenominator s (Some grading) (Some g) = DividesDegrees s grading g

-- the elements of the Hilbert basis whose degree, divided by the denominator, is 1
abbrev pub AreOfDegreeOne : System → Option ℤ → List Vector → Type 0
AreOfDegreeOne s None xs = ⊥
AreOfDegreeOne s (Some g) xs = AreDegreeOneElements s g xs

-- there is no line, and no degree of 0 or less; what is wanted is there, and nothing else
pub record IsSolution (s : SystemData) (o : OutcomeData) : Type 0 where
  pub positive : IsPositive (IsMember s.system)
  pub graded : IsGraded s.system
  pub amb : o.amb ≡ file_width s.system
  pub level : o.level ≡ s.system.level
  pub denominator : HasDenominator s.system s.system.grading o.denominator
  pub modules : IsWhere (wants_modules s) (AreModuleGenerators s.system) o.modules
  pub hilbert : IsWhere (wants_basis s) (IsHilbertBasis s.system) o.hilbert
  pub degree_one : IsWhere s.goals.degree_one (AreOfDegreeOne s.system o.denominator) o.degree_one
  pub vertices : IsWhere (wants_vertices s) (AreVertices s.system) o.vertices
  pub rays : IsWhere s.goals.rays (AreRays s.system) o.rays
  pub description : AreWhere s.goals.hyperplanes (IsSupportDescription s.system) o.support o.equations
  pub cover : AreWhere s.goals.cover (IsCoverOf s.system) o.generators o.simplices
  pub asked : AreAnswered s.system s.system.asked o.asked

-- the stages of the mode
abbrev pub AreStagesOf : Mode → System → List Pair → Type 0
AreStagesOf Primal s pairs = ArePrimalStages s pairs
AreStagesOf Dual s pairs = AreDualStages s pairs

-- the pairs that a watch is told of the system in this mode
abbrev pub AreToldOf : Mode → System → List Pair → Type 0
AreToldOf mode s pairs = AreTold (AreStagesOf mode) s pairs

-- the watch was told nothing yet, or some first stages without those that it was told before the call, and no stop came
abbrev pub WasToldSome : Mode → System → ℕ → Watched → Watched → Type 0
WasToldSome mode s told before now = WasTold before now [] false ⊎ ((passed : ℕ) × HasPassed (AreToldOf mode s) told passed before now false)

-- in dual mode none of the first stages, so many, has to hold more than the limit
abbrev pub AreNotCrowded : Mode → System → (limit passed : ℕ) → Type 0
AreNotCrowded Primal s limit passed = ⊤
AreNotCrowded Dual s limit passed = (p : ℕ) → p < passed → ¬ IsDualCrowd s limit p

-- left with this number after stages that were passed, none of which has to hold more than the limit in dual mode
pub record HasLeftWithin (mode : Mode) (s : System) (limit told number : ℕ) (before now : Watched) : Type 0 where
  pub left : HasLeft (AreToldOf mode s) told number before now
  pub not_crowded : AreNotCrowded mode s limit left.passed

-- nothing was told and the number is as before, or it is that of the first stages that the watch was told, before the call or in it
abbrev pub LeavesWith : Mode → System → (limit told number : ℕ) → Watched → Watched → Type 0
LeavesWith mode s limit told number before now = ((number ≡ told) × WasTold before now [] false) ⊎ HasLeftWithin mode s limit told number before now

-- there is no line, and there are more vectors than the limit. In primal mode: the crowd of the primal algorithm, and the watch was told all stages. In dual mode: what the first stage has to hold, or a stage or a reversed stage, and the watch was told the stages before it.
abbrev pub IsCrowd : Mode → System → (limit told : ℕ) → Watched → Watched → Type 0
IsCrowd Primal s limit told before now = IsPositive (IsMember s) × IsPrimalCrowdAbove s limit × HasPassedAll (AreToldOf Primal s) told before now
IsCrowd Dual s limit told before now = (passed : ℕ) × IsDualCrowd s limit passed × HasPassed (AreToldOf Dual s) told passed before now false

-- the size up to which two numbers of a run can be multiplied, and two such products added
abbrev pub half : ℤ
half = pos (2 ^ 62)

-- a number that a run of the mode is known to form is above n
abbrev pub IsReachAbove : Mode → System → ℤ → Type 0
IsReachAbove Primal s n = IsPrimalReachAbove s n
IsReachAbove Dual s n = IsDualReachAbove s n

-- why there is no outcome, and what the watch was told
abbrev pub IsSolveRefusal : Mode → System → (limit : ℕ) → (before now : Watched) → SolveRefusal → Type 0
IsSolveRefusal mode s limit before now (Line v) = IsLeastLine (IsMember s) v × WasTold before now [] false
IsSolveRefusal mode s limit before now (Grade x) = IsPositive (IsMember s) × IsFirstNotPositive s x × HasPassedAll (AreToldOf mode s) 0 before now
IsSolveRefusal mode s limit before now Range = IsReachAbove mode s half × WasToldSome mode s 0 before now
IsSolveRefusal mode s limit before now TooMany = IsCrowd mode s limit 0 before now
IsSolveRefusal mode s limit before now (Stopped stage) = HasStopped (AreToldOf mode s) 0 stage before now
IsSolveRefusal mode s limit before now NoMemory = WasToldSome mode s 0 before now

-- the same with integers of a type in which two numbers up to h can be multiplied, where the watch was told some first stages before; a number above h leaves with the number of stages told
abbrev pub IsInnerRefusal : Mode → System → (h : ℤ) → (limit told : ℕ) → (before now : Watched) → InnerRefusal → Type 0
IsInnerRefusal mode s h limit told before now (inner.Line v) = IsLeastLine (IsMember s) v × WasTold before now [] false
IsInnerRefusal mode s h limit told before now (inner.Grade x) = IsPositive (IsMember s) × IsFirstNotPositive s x × HasPassedAll (AreToldOf mode s) told before now
IsInnerRefusal mode s h limit told before now (inner.Range number) = IsReachAbove mode s h × LeavesWith mode s limit told number before now
IsInnerRefusal mode s h limit told before now inner.TooMany = IsCrowd mode s limit told before now
IsInnerRefusal mode s h limit told before now (inner.Stopped stage) = HasStopped (AreToldOf mode s) told stage before now
IsInnerRefusal mode s h limit told before now inner.NoMemory = WasToldSome mode s told before now
