-- Bases of lattices.
use Rattle.std.specs.Prelude.{ℕ, ◌<◌, List, map, ℤ, pos}
use Rattle.std.specs.List.{AllByRecursion as Each}
use Rattle.nz_spec.specs.Vectors.{Vector, entry, HasWidth}
use Rattle.nz_spec.specs.Sums.{IsIndependent}
use Rattle.nz_vec.specs.Sums.{SumsFit}
use Rattle.nz_sweep.specs.Duals.{Coordinate}

-- a width, vectors, whose lattice is the group that they generate, and the coordinates of that lattice
pub record Base : Type 0 where
  pub width : ℕ
  pub vectors : List Vector
  pub coordinates : List Coordinate

-- the vectors have that width and are independent
pub record IsBase (b : Base) : Type 0 where
  pub widths : Each (HasWidth b.width) b.vectors
  pub independent : IsIndependent b.width b.vectors

-- the entries of the vectors at one column
abbrev pub column_of : List Vector → ℕ → Vector
column_of vs j = map (λ v. entry v j) vs

-- the type can form, from the left, the sums that make the combination of the vectors
abbrev pub CombinationSumsFit : (ℤ → Type 0) → ℕ → List ℤ → List Vector → Type 0
CombinationSumsFit fits w c vs = (j : ℕ) → j < w → SumsFit fits (pos 0) c (column_of vs j)

-- and those that make the form in coordinates
abbrev pub ValueSumsFit : (ℤ → Type 0) → Vector → List Vector → Type 0
ValueSumsFit fits f vs = Each (λ v. SumsFit fits (pos 0) f v) vs
