-- The numbers that are formed for the units and the classes of a lattice at rows.
use Rattle.std.specs.Prelude.{◌⊎◌, ℕ, List, length, ℤ, pos, Contains}
use Rattle.nz_spec.specs.Vectors.{Vector, HasWidth}
use Rattle.nz_spec.specs.Monoids.{IsIrreducible}
use Rattle.nz_spec.specs.Forms.{IsNormalForm}
use Rattle.nz_linear.specs.Cones.{IsInRows}
use Rattle.nz_range.specs.Measures.{measure, pair_measure}
use Rattle.nz_sweep.specs.Bases.{column_of}
use Rattle.nz_sweep.specs.Numbers.{IsEntryOf, IsMeasureOf}
use Rattle.nz_measures.specs.Stages.{AreFirstRays, IsFirstVector, IsStageVector}
use Rattle.nz_units.specs.Splits.{IsSplitBy, IsSplitNumber}
use Rattle.nz_units.specs.UnitLists.{rows_in}

-- the measure of one of the vectors, of one of the forms, or of one of the forms at one of the vectors
pub data IsPoolNumber (Named IsForm : Vector → Type 0) : ℤ → Type 0 where
  of_vector : {v : Vector} → Named v → IsPoolNumber Named IsForm (pos (measure v))
  of_form : {f : Vector} → IsForm f → IsPoolNumber Named IsForm (pos (measure f))
  of_pair : {f v : Vector} → IsForm f → Named v → IsPoolNumber Named IsForm (pos (pair_measure f v))

-- of rows without a line on w coordinates: their normal forms and the rows at these; and from their first stage on the vectors of the stages and of the reversed stages, with the rows and the normal forms of the extreme generators F of the first stage
pub data IsRestNumber (w : ℕ) (rows : List Vector) : ℤ → Type 0 where
  of_rows : {n : ℤ} → IsPoolNumber (IsNormalForm w rows) (Contains rows) n → IsRestNumber w rows n
  of_stages : {ordered F : List Vector} {n : ℤ} → AreFirstRays (HasWidth w) w rows ordered F
      → IsPoolNumber (λ v. IsFirstVector w ordered F v ⊎ IsStageVector (HasWidth w) w ordered v) (λ f. Contains rows f ⊎ IsNormalForm w F f) n → IsRestNumber w rows n

-- on the way back from coordinates: the entries of the rest, and for each column the sum of the sizes of the products of the coordinates and the entries of the rest there
pub data IsReturnNumber (rest : List Vector) (Named : Vector → Type 0) : ℤ → Type 0 where
  of_entry : {n : ℤ} → IsEntryOf rest n → IsReturnNumber rest Named n
  of_sum : {c : Vector} (j : ℕ) → Named c → IsReturnNumber rest Named (pos (pair_measure c (column_of rest j)))

-- the numbers of the split, the measures of the rows at the rest, those in the coordinates of the rest, and those of taking the irreducibles back
pub data IsUnitNumber (lattice rows : List Vector) : ℤ → Type 0 where
  of_split : {n : ℤ} → IsSplitNumber lattice rows n → IsUnitNumber lattice rows n
  at_rest : {units rest : List Vector} {row : Vector} {n : ℤ} → IsSplitBy lattice rows units rest → Contains rows row → IsMeasureOf row rest n → IsUnitNumber lattice rows n
  in_rest : {units rest : List Vector} {n : ℤ} → IsSplitBy lattice rows units rest → IsRestNumber (length rest) (rows_in rest rows) n → IsUnitNumber lattice rows n
  returning : {units rest : List Vector} {n : ℤ} → IsSplitBy lattice rows units rest → IsReturnNumber rest (IsIrreducible (IsInRows (length rest) (rows_in rest rows))) n → IsUnitNumber lattice rows n
