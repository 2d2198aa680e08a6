-- How a lattice is split by rows: row after row, the vectors at which no row was other than 0 are cleared, and the one that is left with a value is set apart.
use Rattle.std.specs.Prelude.{◌≡◌, ◌⊎◌, ℕ, List, [], ◌∷◌, ◌++◌, ℤ, pos, ◌<ℤ◌}
use Rattle.std.specs.List.{AllByRecursion as Each}
use Rattle.nz_spec.specs.Vectors.{Vector, dot, opposite, HasWidth}
use Rattle.nz_spec.specs.Sums.{IsIndependent}
use Rattle.nz_range.specs.Measures.{measure}
use Rattle.nz_sweep.specs.Takings.{IsTakenAt, IsTakenNumber}

-- vectors of one width, which are independent, and rows of that width
pub record AreForLattice (lattice rows : List Vector) : Type 0 where
  pub width : ℕ
  pub vectors : Each (HasWidth width) lattice
  pub row_widths : Each (HasWidth width) rows
  pub independent : IsIndependent width lattice

-- q is the vector p with the value a, or its opposite where a is below 0
abbrev pub IsTurnedBy : ℤ → Vector → Vector → Type 0
IsTurnedBy a p q = ((pos 0 <ℤ a) × (q ≡ p)) ⊎ ((a <ℤ pos 0) × (q ≡ opposite p))

-- by these rows, in order, the lattice is split into vectors that are not set apart and those that are
pub data IsSplitBy (lattice : List Vector) : List Vector → List Vector → List Vector → Type 0 where
  start : IsSplitBy lattice [] lattice []
  pass : {seen units rest : List Vector} (row : Vector) → IsSplitBy lattice seen units rest → Each (λ u. dot row u ≡ pos 0) units → IsSplitBy lattice (seen ++ row ∷ []) units rest
  apart : {seen units rest us : List Vector} {p q : Vector} {a : ℤ} (row : Vector) → IsSplitBy lattice seen units rest → IsTakenAt row units p a us → IsTurnedBy a p q → IsSplitBy lattice (seen ++ row ∷ []) us (rest ++ q ∷ [])

-- the units and the rest of some lattice at these rows
pub record AreSplitParts (rows units rest : List Vector) : Type 0 where
  pub lattice : List Vector
  pub given : AreForLattice lattice rows
  pub steps : IsSplitBy lattice rows units rest

-- where a row meets the vectors not yet set apart: the numbers of clearing them, and the measure of the one that is taken out, where it is replaced by its opposite
pub data IsRowNumber (row : Vector) (units : List Vector) : ℤ → Type 0 where
  clearing : {n : ℤ} → IsTakenNumber row units n → IsRowNumber row units n
  turning : {p : Vector} {a : ℤ} {us : List Vector} → IsTakenAt row units p a us → a <ℤ pos 0 → IsRowNumber row units (pos (measure p))

-- those of each of the rows in turn
pub record IsSplitNumber (lattice rows : List Vector) (n : ℤ) : Type 0 where
  pub seen : List Vector
  pub row : Vector
  pub later : List Vector
  pub units : List Vector
  pub rest : List Vector
  pub whole : rows ≡ seen ++ row ∷ later
  pub split : IsSplitBy lattice seen units rest
  pub number : IsRowNumber row units n
