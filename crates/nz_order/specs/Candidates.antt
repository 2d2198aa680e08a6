-- The vectors that a cover gives: its own, and the members in the boxes of its simplices.
use Rattle.std.specs.Prelude.{◌⊎◌, ℕ, List, Contains}
use Rattle.nz_spec.specs.Vectors.{Vector}
use Rattle.nz_spec.specs.Sums.{IsInBox}
use Rattle.nz_spec.specs.Covers.{vectors_at}

-- a member that is a sum of the vectors of a simplex with rational factors of at least 0 and below 1
pub record IsBoxPoint (w : ℕ) (Member : Vector → Type 0) (X : List Vector) (cover : List (List ℕ)) (v : Vector) : Type 0 where
  pub member : Member v
  pub places : List ℕ
  pub of_cover : Contains cover places
  pub in_box : IsInBox w (vectors_at X places) v

-- a vector of the list, or such a member
abbrev pub IsCandidate : ℕ → (Vector → Type 0) → List Vector → List (List ℕ) → Vector → Type 0
IsCandidate w Member X cover v = Contains X v ⊎ IsBoxPoint w Member X cover v
