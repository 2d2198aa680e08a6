-- Sums of vectors that have a property, each as often as it is listed.
use Rattle.std.specs.Prelude.{◌≡◌, ℕ, List, [], ◌∷◌}
use Rattle.std.specs.List.{AllByRecursion as Each}
use Rattle.nz_spec.specs.Vectors.{Vector, plus, zero_vector}

-- the sum of the vectors of w entries
abbrev pub total : ℕ → List Vector → Vector
total w [] = zero_vector w
total w (x ∷ xs) = plus x (total w xs)

-- x is the sum of some vectors that have P, with repeats
pub record IsTotalOf (w : ℕ) (P : Vector → Type 0) (x : Vector) : Type 0 where
  pub terms : List Vector
  pub each : Each P terms
  pub same : total w terms ≡ x
