-- The whole vectors of a half-open parallelepiped, and the classes of vectors that differ by whole sums of its sides.
use Rattle.std.specs.Prelude.{ℕ, pos, ◌-ℤ◌, ◌≤ℤ◌, ◌<ℤ◌, List}
use Rattle.std.specs.List.{AllByRecursion as Each}
use Rattle.nz_spec.specs.Vectors.{Vector, dot, HasWidth, IsMultipleOf}
use Rattle.nz_spec.specs.Sums.{IsInBox}
use Rattle.nz_linear.specs.DualPairs.{Pair, divisor}

-- a whole vector that is a sum of the sides with rational factors of at least 0 and below 1
abbrev pub IsPoint : ℕ → List Vector → Vector → Type 0
IsPoint w sides x = HasWidth w x × IsInBox w sides x

-- x and y are in one class: each form has at x and y values that differ by a multiple of its divisor
abbrev pub AreOneClass : List Pair → Vector → Vector → Type 0
AreOneClass ps x y = Each (λ p. IsMultipleOf (divisor p) (dot p.form x -ℤ dot p.form y)) ps

-- each form has at x a value of at least 0 and below its divisor
abbrev pub HasReducedValues : List Pair → Vector → Type 0
HasReducedValues ps x = Each (λ p. (pos 0 ≤ℤ dot p.form x) × (dot p.form x <ℤ divisor p)) ps

-- y is the point in the class of x
pub record IsRestOf (w : ℕ) (ps : List Pair) (x y : Vector) : Type 0 where
  pub width : HasWidth w y
  pub reduced : HasReducedValues ps y
  pub one_class : AreOneClass ps y x
