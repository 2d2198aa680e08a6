-- What the parts of the solver answer.
use Rattle.std.specs.Prelude.{◌≡◌, ◌⊎◌, ⊤, ◌||◌, ℕ, ◌-◌, ℤ, pos, Bool, true, false, IsTrue, List, [], length, get_or, Option, Some, None, Contains, FitsSigned, IfSome}
use Rattle.std.specs.Int.{w128}
use Rattle.std.specs.List.Sorted.{IsPermutation}
use Rattle.std.specs.List.{AllByRecursion as Each}
use Rattle.nz_spec.specs.Vectors.{Vector, HasWidth}
use Rattle.nz_spec.specs.Order.{degree, ListsOnce}
use Rattle.nz_spec.specs.Systems.{System, IsMember}
use Rattle.nz_spec.specs.Monoids.{IsPositive, IsIrreducible}
use Rattle.nz_spec.specs.Elements.{IsHilbertBasis, AreModuleGenerators, AreExtreme, IsFirstNotPositive}
use Rattle.nz_spec.specs.Constraints.{Constraint}
use Rattle.nz_spec.specs.Covers.{IsGoodCover}
use Rattle.nz_order.specs.Picks.{Picks}
use Rattle.nz_further.specs.Denominators.{IsDenominator}
use Rattle.nz_degree.specs.Degrees.{LacksDegree, LacksDenominator, IsInOrder}
use Rattle.nz_degree.specs.Levels.{IsAtLevel}
use Rattle.nz_degree.specs.Positivities.{Tells}
use Rattle.nz_degree.specs.declared.positivity.Positivity.TheVariants.{Positive, NotPositive}
use Rattle.nz_pointed.specs.Pointed.{IsTooLarge}
use Rattle.nz_sweep.specs.Bases.{Base}
use Rattle.nz_system.specs.Meaning.{SystemData}
use Rattle.nz_measures.specs.Reaches.{HasOwnAbove}
use Rattle.nz_member.specs.Values.{IsOfWidth}
use Rattle.nz_member.specs.Replies.{IsInMonoid, IsReplyTo, HasItsValue, LacksNumber}
use Rattle.nz_blocks.specs.Outcomes.{Asked, at_level}
use Rattle.nz_frame.specs.Elements.{IsGraded}
use Rattle.nz_frame.specs.Frames.{vector_at, IsLed, LacksLine}
use Rattle.nz_solve.specs.Replies.{IsWhere}
use Rattle.nz_vec.specs.declared.answers.Num.{Num}
use Rattle.nz_vec.specs.declared.answers.Num.TheVariants as num
use Rattle.nz_vec.specs.declared.answers.Work.{Work}
use Rattle.nz_vec.specs.declared.answers.Work.TheVariants as work
use Rattle.nz_solve.specs.declared.refusal.SolveRefusal.{SolveRefusal}
use Rattle.nz_solve.specs.declared.refusal.SolveRefusal.TheVariants.{Line, Grade, Range, TooMany, Stopped, NoMemory}
use Rattle.nz_solve.specs.declared.refusal.InnerRefusal.{InnerRefusal}
use Rattle.nz_solve.specs.declared.refusal.InnerRefusal.TheVariants as inner

-- ---- elements

-- the irreducible elements of all levels, each once, the extreme generators in order, and a good cover of these
pub record AreAllElements (s : System) (list extreme : List Vector) (simplices : List (List ℕ)) : Type 0 where
  pub positive : IsPositive (IsMember s)
  pub lists : ListsOnce (IsIrreducible (IsMember s)) list
  pub are_extreme : AreExtreme s extreme
  pub cover : IsGoodCover s.width (IsMember s) extreme simplices

-- the extreme generators are needed for the extreme rays and for the support forms
abbrev pub wants_description : SystemData → Bool
wants_description s = s.goals.rays || s.goals.hyperplanes

-- the irreducible elements, and of the rest what the goals need
pub record AreElements (s : SystemData) (list extreme : List Vector) (simplices : List (List ℕ)) : Type 0 where
  pub positive : IsPositive (IsMember s.system)
  pub lists : ListsOnce (IsIrreducible (IsMember s.system)) list
  pub are_extreme : IsTrue (wants_description s) → AreExtreme s.system extreme
  pub cover : IsTrue s.goals.cover → AreExtreme s.system extreme × IsGoodCover s.system.width (IsMember s.system) extreme simplices

-- ---- lists by level and degree

-- with a level the elements of level 0 and those of level 1, and else all
abbrev pub AreLevels : Bool → (list zero one : List Vector) → Type 0
AreLevels true list zero one = Picks (IsAtLevel (pos 0)) list zero × Picks (IsAtLevel (pos 1)) list one
AreLevels false list zero one = zero ≡ list

-- no grading, or each degree is positive
abbrev pub ArePositive : Option Vector → List Vector → Type 0
ArePositive None list = ⊤
ArePositive (Some grading) list = Tells grading list Positive

-- at some place of the list stands x, the first of those whose degree is not positive
pub record IsNotPositiveAt (grading : Option Vector) (list : List Vector) (x : Vector) : Type 0 where
  pub form : Vector
  pub given : grading ≡ Some form
  pub place : ℕ
  pub tells : Tells form list (NotPositive place)
  pub shown : x ≡ get_or list place []

-- the degree of a row of the list is no value
pub record LacksSomeDegree (fits : ℤ → Type 0) (grading : Option Vector) (list : List Vector) : Type 0 where
  pub form : Vector
  pub given : grading ≡ Some form
  pub lacks : LacksDegree fits form list

-- the degree of a row of the list is no value, or the denominator is none
pub record LacksSomeDenominator (fits : ℤ → Type 0) (grading : Option Vector) (list : List Vector) : Type 0 where
  pub form : Vector
  pub given : grading ≡ Some form
  pub lacks : LacksDenominator fits form list

-- the degree of a row of the first level is no value, or with a level that of one of the second
abbrev pub IsLevelCause : (ℤ → Type 0) → Bool → Option Vector → (zero one : List Vector) → Type 0
IsLevelCause fits level grading zero one = LacksSomeDegree fits grading zero ⊎ (IsTrue level × LacksSomeDegree fits grading one)

-- why degrees are refused
abbrev pub IsDegreeRefusal : (ℤ → Type 0) → Option Vector → List Vector → SolveRefusal → Type 0
IsDegreeRefusal fits grading list (Line v) = ⊥
IsDegreeRefusal fits grading list (Grade x) = IsNotPositiveAt grading list x
IsDegreeRefusal fits grading list Range = LacksSomeDegree fits grading list
IsDegreeRefusal fits grading list TooMany = ⊥
IsDegreeRefusal fits grading list (Stopped stage) = ⊥
IsDegreeRefusal fits grading list NoMemory = ⊤

-- the same rows in order
pub record IsSorted (grading : Option Vector) (list sorted : List Vector) : Type 0 where
  pub moved : IsPermutation list sorted
  pub in_order : IsInOrder grading sorted

-- the rows of both levels in order, the second where there is a level
pub record AreSorted (level : Bool) (grading : Option Vector) (zero one hilbert : List Vector) (modules : Option (List Vector)) : Type 0 where
  pub first : IsSorted grading zero hilbert
  pub second : IsWhere level (IsSorted grading one) modules

-- the Hilbert basis, whose degrees are positive, and with a level the module generators
pub record AreElementLists (s : System) (hilbert : List Vector) (modules : Option (List Vector)) : Type 0 where
  pub graded : IsGraded s
  pub basis : IsHilbertBasis s hilbert
  pub are_modules : IsWhere s.level (AreModuleGenerators s) modules

-- where a grading is given, the denominator of the degrees, and where they are wanted the rows of which it is the degree
abbrev pub AreDivided : (wanted : Bool) → Option Vector → List Vector → Option ℤ → Option (List Vector) → Type 0
AreDivided wanted None hilbert o ones = (o ≡ None) × (ones ≡ None)
AreDivided wanted (Some grading) hilbert None ones = ⊥
AreDivided wanted (Some grading) hilbert (Some g) ones = IsDenominator grading hilbert g × IsWhere wanted (Picks (λ x. degree grading x ≡ g) hilbert) ones

-- where they are wanted, all without a level, and with one those of positive level and those of level 0
abbrev pub AreParted : (wanted level : Bool) → List Vector → (vertices rays : Option (List Vector)) → Type 0
AreParted false level extreme vertices rays = (vertices ≡ None) × (rays ≡ None)
AreParted true false extreme vertices rays = (vertices ≡ None) × (rays ≡ Some extreme)
AreParted true true extreme vertices rays = IsWhere true (Picks (λ x. ¬ IsAtLevel (pos 0) x) extreme) vertices × IsWhere true (Picks (IsAtLevel (pos 0)) extreme) rays

-- the list, where it is wanted
abbrev pub kept_where : {A : Type 0} → Bool → Option A → Option A
kept_where true o = o
kept_where false o = None

-- the number of entries of a vector of the file
abbrev pub amb_at : Bool → ℕ → ℕ
amb_at true width = width - 1
amb_at false width = width

-- why something is not shown: a degree or the denominator is no value, or the description of the extreme generators forms a number above the half
abbrev pub IsShownCause : (h : ℤ) → (ℤ → Type 0) → SystemData → (extreme hilbert : List Vector) → Type 0
IsShownCause h fits s extreme hilbert = LacksSomeDenominator fits s.system.grading hilbert ⊎ (IsTrue s.goals.hyperplanes × IsTooLarge h s.system.width extreme)

-- ---- asked vectors

-- the constraints and the lists are on vectors as wide as x with its level
pub record IsFitting (cs : List Constraint) (level : Bool) (hilbert : List Vector) (modules : Option (List Vector)) (x : Vector) : Type 0 where
  pub forms : Each (IsOfWidth (length (at_level level x))) cs
  pub elements : Each (IsInMonoid (length (at_level level x)) cs) hilbert
  pub generators : IfSome modules (Each (HasWidth (length (at_level level x))))

-- the vector, with its level, and its reply by the constraints, whose form has a value there
pub record IsAnswered (cs : List Constraint) (level : Bool) (hilbert : List Vector) (modules : Option (List Vector)) (x : Vector) (a : Asked) : Type 0 where
  pub same : a.0 ≡ x
  pub reply : IsReplyTo (λ z. z) cs (at_level level x) hilbert modules a.1
  pub value : HasItsValue (λ z. z) (FitsSigned w128) (at_level level x) a.1

-- at one of the vectors, with its level, or at an element of the lists, the form of a constraint has no value
pub record LacksReply (fits : ℤ → Type 0) (cs : List Constraint) (level : Bool) (hilbert : List Vector) (modules : Option (List Vector)) (xs : List Vector) : Type 0 where
  pub vector : Vector
  pub listed : Contains xs vector
  pub lacks : LacksNumber fits cs (at_level level vector) hilbert modules

-- ---- refusals

-- why the elements give no outcome: a degree that is not positive, or a number above the half
abbrev pub IsOutcomeRefusal : (h : ℤ) → System → SolveRefusal → Type 0
IsOutcomeRefusal h s (Line v) = ⊥
IsOutcomeRefusal h s (Grade x) = IsFirstNotPositive s x
IsOutcomeRefusal h s Range = HasOwnAbove s h
IsOutcomeRefusal h s TooMany = ⊥
IsOutcomeRefusal h s (Stopped stage) = ⊥
IsOutcomeRefusal h s NoMemory = ⊤

-- the same refusal, of a call that only reckons
abbrev pub IsReckonRefusal : Num → SolveRefusal → Type 0
IsReckonRefusal num.Range r = r ≡ Range
IsReckonRefusal num.NoMemory r = r ≡ NoMemory

-- the same, with the number of stages told
abbrev pub IsCountedRefusal : (told : ℕ) → Num → InnerRefusal → Type 0
IsCountedRefusal told num.Range r = r ≡ inner.Range told
IsCountedRefusal told num.NoMemory r = r ≡ inner.NoMemory

-- the same refusal, of a call that works in stages
abbrev pub IsSameRefusal : Work → InnerRefusal → Type 0
IsSameRefusal (work.Range told) r = r ≡ inner.Range told
IsSameRefusal work.TooMany r = r ≡ inner.TooMany
IsSameRefusal (work.Stopped stage) r = r ≡ inner.Stopped stage
IsSameRefusal work.NoMemory r = r ≡ inner.NoMemory

-- the same refusal, with the number of stages told
abbrev pub IsToldRefusal : (told : ℕ) → SolveRefusal → InnerRefusal → Type 0
IsToldRefusal told (Line v) r = r ≡ inner.Line v
IsToldRefusal told (Grade x) r = r ≡ inner.Grade x
IsToldRefusal told Range r = r ≡ inner.Range told
IsToldRefusal told TooMany r = r ≡ inner.TooMany
IsToldRefusal told (Stopped stage) r = r ≡ inner.Stopped stage
IsToldRefusal told NoMemory r = r ≡ inner.NoMemory

-- the same refusal, without it
abbrev pub IsOuterRefusal : InnerRefusal → SolveRefusal → Type 0
IsOuterRefusal (inner.Line v) r = r ≡ Line v
IsOuterRefusal (inner.Grade x) r = r ≡ Grade x
IsOuterRefusal (inner.Range told) r = r ≡ Range
IsOuterRefusal inner.TooMany r = r ≡ TooMany
IsOuterRefusal (inner.Stopped stage) r = r ≡ Stopped stage
IsOuterRefusal inner.NoMemory r = r ≡ NoMemory

-- the line of a base, or why it is not shown
abbrev pub IsLineRefusal : (ℤ → Type 0) → (told : ℕ) → Base → Vector → InnerRefusal → Type 0
IsLineRefusal fits told b line (inner.Line v) = IsLed (vector_at b line) v
IsLineRefusal fits told b line (inner.Grade x) = ⊥
IsLineRefusal fits told b line (inner.Range number) = LacksLine fits b line × (number ≡ told)
IsLineRefusal fits told b line inner.TooMany = ⊥
IsLineRefusal fits told b line (inner.Stopped stage) = ⊥
IsLineRefusal fits told b line inner.NoMemory = Unit {0}
