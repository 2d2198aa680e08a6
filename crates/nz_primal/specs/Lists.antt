-- What the primal run answers: the irreducible elements of the whole vectors at which all rows are at least 0, their extreme generators, and a good cover of these.
use Rattle.std.specs.Prelude.{◌≡◌, ◌⊎◌, ℕ, max, List, [], length, pos, false}
use Rattle.std.specs.List.{AllByRecursion as Each, AllZip}
use Rattle.nz_spec.specs.Vectors.{Vector, dot, values_at, HasWidth, IsZero}
use Rattle.nz_spec.specs.Boxes.{IsListedOrBoxMember}
use Rattle.nz_spec.specs.Order.{IsLexBefore, IsListOf, MoreThan}
use Rattle.nz_spec.specs.Monoids.{IsIrreducible, IsExtreme}
use Rattle.nz_spec.specs.Forms.{AreDualForms}
use Rattle.nz_spec.specs.Covers.{vectors_at, IsGoodCover}
use Rattle.nz_spec.specs.Stages.{ArePlacings}
use Rattle.nz_linear.specs.Cones.{IsInRows}
use Rattle.nz_vec.specs.declared.answers.Work.{Work}
use Rattle.nz_vec.specs.declared.answers.Work.TheVariants.{Range, TooMany, Stopped, NoMemory}
use Rattle.nz_watch.specs.Watching.{Pair}
use Rattle.nz_watch.specs.Telling.{Watched, WasTold, HasPassed, HasPassedAll, HasStopped}
use Rattle.nz_primal.specs.Second.{IsFaceBase, HaveCoordinates}

-- forms on vectors of one width that are all 0 only at 0
pub record AreSeparating (w : ℕ) (order : List Vector) : Type 0 where
  pub widths : Each (HasWidth w) order
  pub only_zero : (x : Vector) → HasWidth w x → Each (λ f. dot f x ≡ pos 0) order → IsZero x

-- at the first form at which they differ, x has the lesser value
abbrev pub IsBeforeBy : List Vector → Vector → Vector → Type 0
IsBeforeBy order x y = IsLexBefore (values_at order x) (values_at order y)

-- the extreme generators of the whole vectors at which all rows are at least 0, increasing by the values of the forms
abbrev pub AreGenerators : ℕ → (rows order extreme : List Vector) → Type 0
AreGenerators w rows order extreme = IsListOf (IsBeforeBy order) (IsExtreme (IsInRows w rows)) extreme

-- for each simplex the dual forms of its vectors, in the coordinates of a base of the vectors at which the rows are 0 that are 0 at all extreme generators
pub record AreCoverForms (w : ℕ) (rows extreme : List Vector) (simplices : List (List ℕ)) (forms : List (List Vector)) : Type 0 where
  pub base : List Vector
  pub coordinates : List Vector
  pub is_base : IsFaceBase w rows extreme base
  pub have : HaveCoordinates w base coordinates extreme
  pub dual : AllZip (λ places fs. AreDualForms (length base) (vectors_at coordinates places) fs) simplices forms

-- exactly the irreducible elements, exactly their extreme generators, and a good cover of these
pub record ArePrimalLists (w : ℕ) (rows order list extreme : List Vector) (simplices : List (List ℕ)) (forms : List (List Vector)) : Type 0 where
  pub elements : IsListOf IsLexBefore (IsIrreducible (IsInRows w rows)) list
  pub generators : AreGenerators w rows order extreme
  pub cover : IsGoodCover w (IsInRows w rows) extreme simplices
  pub cover_forms : AreCoverForms w rows extreme simplices forms

-- the placing of these vectors has so many stages
abbrev pub HasStageCount : ℕ → List Vector → ℕ → Type 0
HasStageCount w extreme count = (pairs : List Pair) → ArePlacings w extreme pairs → length pairs ≡ count

-- no stop came, and so many stages were passed: none before the extreme generators are found, and then the first of their placing
abbrev pub HasPassedFirst : ℕ → (rows order : List Vector) → (told passed : ℕ) → (before now : Watched) → Type 0
HasPassedFirst w rows order told passed before now = ((passed ≡ 0) × WasTold before now [] false) ⊎ ((extreme : List Vector) × AreGenerators w rows order extreme × HasPassed (ArePlacings w extreme) told passed before now false)

-- why there are no lists, and what the watch was told. The number is the greater of the one handed in and that of the stages passed
abbrev pub IsPrimalRefusal : ℕ → (rows order : List Vector) → (limit told : ℕ) → (before now : Watched) → Work → Type 0
IsPrimalRefusal w rows order limit told before now (Range number) = (passed : ℕ) × HasPassedFirst w rows order told passed before now × (number ≡ max told passed)
IsPrimalRefusal w rows order limit told before now TooMany = (extreme : List Vector) × AreGenerators w rows order extreme × HasPassedAll (ArePlacings w extreme) told before now × MoreThan limit (IsListedOrBoxMember w (IsInRows w rows) extreme)
IsPrimalRefusal w rows order limit told before now (Stopped stage) = (extreme : List Vector) × AreGenerators w rows order extreme × HasStopped (ArePlacings w extreme) told stage before now
IsPrimalRefusal w rows order limit told before now NoMemory = (passed : ℕ) × HasPassedFirst w rows order told passed before now
