-- What is answered of rows: a vector at which all are 0, or the first independent ones with their rays.
use Rattle.std.specs.Prelude.{◌≡◌, ◌⊎◌, ℕ, ◌<◌, ℤ, Contains, List, [], ◌∷◌, length, get_or, take, pos}
use Rattle.std.specs.List.{AllByRecursion as Each}
use Rattle.nz_spec.specs.Vectors.{Vector, dot, opposite, HasWidth, IsPrimitive, LeadsPositive}
use Rattle.nz_spec.specs.Sums.{IsInSpan}
use Rattle.nz_spec.specs.Order.{IsListOf}
use Rattle.nz_spec.specs.Covers.{vectors_at}
use Rattle.nz_spec.specs.Forms.{IsNormalForm, IsOtherColumn, AreEquations}
use Rattle.nz_range.specs.Measures.{SomeLarge, SomeLargeAt}
use Rattle.nz_linear.specs.DualPairs.{Pair, pair_of, IsDualPair, OnlyZero}
use Rattle.nz_pointed.specs.declared.starting.Pointed.{Pointed}
use Rattle.nz_pointed.specs.declared.starting.Pointed.TheVariants.{Simplex, Line}

-- v is primitive, leads with a positive entry, all rows are 0 there, and v or -v is a normal form of the rows
pub record IsLineOf (w : ℕ) (rows : List Vector) (v : Vector) : Type 0 where
  pub width : HasWidth w v
  pub zero : Each (λ r. dot r v ≡ pos 0) rows
  pub primitive : IsPrimitive v
  pub leads : LeadsPositive v
  pub normal : IsNormalForm w rows v ⊎ IsNormalForm w rows (opposite v)

-- the row at this place is no sum, with rational factors, of the rows before it
pub record IsNew (w : ℕ) (rows : List Vector) (place : ℕ) : Type 0 where
  pub within : place < length rows
  pub independent : ¬ IsInSpan w (take place rows) (get_or rows place [])

-- the places of the first independent rows
abbrev pub AreFirstIndependent : ℕ → List Vector → List ℕ → Type 0
AreFirstIndependent w rows places = IsListOf ◌<◌ (IsNew w rows) places

-- the forms with their vectors, in order
abbrev pub paired : List Vector → List Vector → List Pair
paired [] vs = []
paired (f ∷ fs) [] = []
paired (f ∷ fs) (v ∷ vs) = pair_of f v ∷ paired fs vs

-- the first independent rows, which vanish together only at 0, and the primitive vectors at which each is positive and the others are 0
pub record IsSimplexOf (w : ℕ) (rows : List Vector) (places : List ℕ) (rays : List Vector) : Type 0 where
  pub first : AreFirstIndependent w rows places
  pub one_each : length rays ≡ length places
  pub dual : IsDualPair w (paired (vectors_at rows places) rays)
  pub only_zero : OnlyZero w (paired (vectors_at rows places) rays)
  pub primitive : Each IsPrimitive rays

-- a line, or else a simplex
abbrev pub IsAnswer : {T : Type 0} → ℕ → List Vector → Pointed T → Type 0
IsAnswer w rows (Simplex s) = IsSimplexOf w rows s.places s.rays
IsAnswer w rows (Line v) = IsLineOf w rows v

-- the columns that are no key column, and the equations
pub record AreEquationsWith (w : ℕ) (rows : List Vector) (columns : List ℕ) (forms : List Vector) : Type 0 where
  pub others : IsListOf ◌<◌ (IsOtherColumn w rows) columns
  pub equations : AreEquations w rows forms
  pub one_each : length forms ≡ length columns

-- a normal form of the rows, or a row at one, has a measure above the bound
abbrev pub IsTooLarge : ℤ → ℕ → List Vector → Type 0
IsTooLarge bound w rows = SomeLarge bound (IsNormalForm w rows) ⊎ SomeLargeAt bound (Contains rows) (IsNormalForm w rows)
