-- Why there are no units and classes.
use Rattle.std.specs.Prelude.{◌≡◌, ⊤, ℕ, ℤ, List}
use Rattle.std.specs.List.{AllByRecursion as Each}
use Rattle.nz_spec.specs.Vectors.{Vector, HasWidth}
use Rattle.nz_spec.specs.Sums.{IsIndependent}
use Rattle.nz_spec.specs.Covers.{vectors_at}
use Rattle.nz_pointed.specs.Pointed.{IsSimplexOf}
use Rattle.nz_vec.specs.declared.answers.Work.{Work}
use Rattle.nz_vec.specs.declared.answers.Work.TheVariants.{Range, TooMany, Stopped, NoMemory}
use Rattle.nz_sweep.specs.Numbers.{SomeNumberLarge}
use Rattle.nz_dual.specs.Refusals.{IsStageOf}
use Rattle.nz_units.specs.UnitNumbers.{IsRestNumber, IsUnitNumber}
use Rattle.nz_units.specs.UnitCrowds.{IsUnitCrowd}

-- a named number is above the bound, too many vectors, or no memory
abbrev pub IsUnitRefusal : ℤ → ℕ → List Vector → List Vector → Work → Type 0
IsUnitRefusal bound limit lattice rows (Range told) = (told ≡ 0) × SomeNumberLarge bound (IsUnitNumber lattice rows)
IsUnitRefusal bound limit lattice rows TooMany = (w : ℕ) → Each (HasWidth w) lattice → IsIndependent w lattice → IsUnitCrowd limit w lattice rows
IsUnitRefusal bound limit lattice rows (Stopped stage) = ⊥
IsUnitRefusal bound limit lattice rows NoMemory = ⊤

-- ---- in the coordinates of the rest
-- some stage of rows without a line is refused, since it would have too many vectors
pub record HasStageCrowd (bound : ℤ) (limit w : ℕ) (rows : List Vector) : Type 0 where
  pub places : List ℕ
  pub rays : List Vector
  pub simplex : IsSimplexOf w rows places rays
  pub passed : ℕ
  pub refused : IsStageOf bound limit w rows (vectors_at rows places) rays passed TooMany

-- why the irreducibles of rows without a line are not given
abbrev pub IsRestRefusal : ℤ → ℕ → ℕ → List Vector → Work → Type 0
IsRestRefusal bound limit w rows (Range told) = (told ≡ 0) × SomeNumberLarge bound (IsRestNumber w rows)
IsRestRefusal bound limit w rows TooMany = HasStageCrowd bound limit w rows
IsRestRefusal bound limit w rows (Stopped stage) = ⊥
IsRestRefusal bound limit w rows NoMemory = ⊤
