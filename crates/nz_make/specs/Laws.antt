-- What is known of a made file.
use Rattle.std.specs.Prelude.{◌≡◌, ◌↔◌, ℕ, ◌+◌, ◌*◌, ◌≤◌, List, length, pos}
use Rattle.nz_spec.specs.Vectors.{Vector}
use Rattle.nz_spec.specs.Systems.{IsMember}
use Rattle.nz_spec.specs.Monoids.{IsIrreducible}
use Rattle.nz_spec.specs.Elements.{IsHilbertBasis}
use Rattle.nz_system.specs.Meaning.{system_of}
use Rattle.nz_make.specs.Squares.{made_file, IsPoint, sum_of_all}

-- the irreducible elements of the monoid of a made file are exactly the points of its square
abbrev pub IrreduciblesArePoints : Type 0
IrreduciblesArePoints = (n : ℕ) → 1 ≤ n → (x : Vector) → IsIrreducible (IsMember (system_of (made_file n))) x ↔ IsPoint n x

-- the list of the Hilbert basis of the made file: (n + 1)^2 elements, whose entries have the sum (n + 1)^3
pub record IsCounted (n : ℕ) (xs : List Vector) : Type 0 where
  pub basis : IsHilbertBasis (system_of (made_file n)) xs
  pub count : length xs ≡ (n + 1) * (n + 1)
  pub sum : sum_of_all xs ≡ pos ((n + 1) * ((n + 1) * (n + 1)))

-- there is such a list, and each list of the Hilbert basis is one
abbrev pub PointsAreCounted : Type 0
PointsAreCounted = (n : ℕ) → 1 ≤ n → ((xs : List Vector) × IsCounted n xs) × ((xs : List Vector) → IsHilbertBasis (system_of (made_file n)) xs → IsCounted n xs)
