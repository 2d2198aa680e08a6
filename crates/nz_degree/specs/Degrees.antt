-- Rows by their degrees: which a type cannot reckon, the first that is not positive, and lists in order.
use Rattle.std.specs.Prelude.{◌⊎◌, ℕ, ◌<◌, List, [], length, get_or, ℤ, pos, ◌≤ℤ◌, Option, Some, Contains}
use Rattle.nz_spec.specs.Vectors.{Vector}
use Rattle.nz_spec.specs.Order.{degree, StandsBefore, Pairwise, IsFirstOf}
use Rattle.nz_vec.specs.Sums.{SumsFit}
use Rattle.nz_further.specs.Denominators.{IsDenominator}

-- at some row of the list a product, or a sum from the left, of its degree is no value of the type
pub record LacksDegree (fits : ℤ → Type 0) (grading : Vector) (list : List Vector) : Type 0 where
  pub row : Vector
  pub listed : Contains list row
  pub lacks : ¬ SumsFit fits (pos 0) grading row

-- at some row of the list the degree cannot be reckoned, or the denominator is no value of the type
abbrev pub LacksDenominator : (ℤ → Type 0) → Vector → List Vector → Type 0
LacksDenominator fits grading list = LacksDegree fits grading list ⊎ ((g : ℤ) → IsDenominator grading list g → ¬ fits g)

-- x is a row of the list, of degree 0 or less
pub record IsNotPositiveIn (grading : Vector) (list : List Vector) (x : Vector) : Type 0 where
  pub listed : Contains list x
  pub not_positive : degree grading x ≤ℤ pos 0

-- at this place stands the first, in the order by degree, of the rows of degree 0 or less
pub record IsPlaceOfFirst (grading : Vector) (list : List Vector) (place : ℕ) : Type 0 where
  pub inside : place < length list
  pub first : IsFirstOf (StandsBefore (Some grading)) (IsNotPositiveIn grading list) (get_or list place [])

-- no row of the list stands before an earlier one
abbrev pub IsInOrder : Option Vector → List Vector → Type 0
IsInOrder grading list = Pairwise (λ x y. ¬ StandsBefore grading y x) list
