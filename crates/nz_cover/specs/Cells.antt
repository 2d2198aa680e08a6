-- Simplices as lists of pairs: each vector with the form that is positive at it and 0 at the others.
use Rattle.std.specs.Prelude.{ℕ, List, pos, ◌≤ℤ◌, ◌<ℤ◌, Contains}
use Rattle.std.specs.List.{AllByRecursion as Each}
use Rattle.nz_spec.specs.Vectors.{Vector, dot, HasWidth, IsPrimitive}
use Rattle.nz_spec.specs.Sums.{IsInCone}
use Rattle.nz_spec.specs.Order.{Pairwise}
use Rattle.nz_linear.specs.DualPairs.{Pair, IsDualPair, OnlyZero}

-- a simplex with as many vectors as they have entries, and the primitive form of each vector
pub record IsCell (w : ℕ) (cell : List Pair) : Type 0 where
  pub dual : IsDualPair w cell
  pub only_zero : OnlyZero w cell
  pub primitive : Each (λ p. IsPrimitive p.form) cell

-- each form is at least 0 at x: the simplex holds x
abbrev pub IsAt : Vector → List Pair → Type 0
IsAt x cell = Each (λ p. pos 0 ≤ℤ dot p.form x) cell

-- each form is above 0 at x: x is inside the simplex
abbrev pub IsWithin : Vector → List Pair → Type 0
IsWithin x cell = Each (λ p. pos 0 <ℤ dot p.form x) cell

-- no vector is inside both
abbrev pub AreApart : ℕ → List Pair → List Pair → Type 0
AreApart w c d = (x : Vector) → HasWidth w x → IsWithin x c → IsWithin x d → ⊥

-- one of the simplices holds x
pub record HasCellAt (cells : List (List Pair)) (x : Vector) : Type 0 where
  pub cell : List Pair
  pub has : Contains cells cell
  pub at : IsAt x cell

-- the vectors of the cell are in the list
abbrev pub IsOf : List Vector → List Pair → Type 0
IsOf vs cell = Each (λ p. Contains vs p.vector) cell

-- simplices of vectors of a list that hold all of their cone, and do not overlap inside
pub record AreCells (w : ℕ) (vs : List Vector) (cells : List (List Pair)) : Type 0 where
  pub each : Each (IsCell w) cells
  pub of_list : Each (IsOf vs) cells
  pub covers : (x : Vector) → HasWidth w x → IsInCone w vs x → HasCellAt cells x
  pub apart : Pairwise (AreApart w) cells
