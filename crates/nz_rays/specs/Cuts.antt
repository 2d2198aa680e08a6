-- What is kept of rays after a new row, and what is added, with the places at which rows are 0.
use Rattle.std.specs.Prelude.{◌≡◌, ◌≢◌, ◌⊎◌, ℕ, ◌<◌, List, [], ◌∷◌, ◌++◌, length, get_or, pos, neg_ℤ, ◌≤ℤ◌}
use Rattle.std.specs.List.{AllZip}
use Rattle.nz_spec.specs.Vectors.{Vector, plus, scaled}
use Rattle.nz_spec.specs.Order.{IsListOf}
use Rattle.nz_spec.specs.Covers.{vectors_at}
use Rattle.nz_vec.specs.Primitives.{IsPrimitivePart}
use Rattle.nz_rays.specs.declared.crossings.Crossing.{Crossing}
use Rattle.nz_rays.specs.Crossings.{AreCrossingsBefore}

-- the value at this place is not negative
pub record IsKeptAt (values : Vector) (place : ℕ) : Type 0 where
  pub within : place < length values
  pub side : pos 0 ≤ℤ get_or values place (pos 0)

-- the sum of the two rays at which the new row is 0
abbrev pub crossing_sum : Vector → List Vector → Crossing → Vector
crossing_sum values rays c = plus (scaled (get_or values c.above (pos 0)) (get_or rays c.below [])) (scaled (neg_ℤ (get_or values c.below (pos 0))) (get_or rays c.above []))

-- x is that sum, divided by the common divisor of its entries
abbrev pub IsSum : Vector → List Vector → Crossing → Vector → Type 0
IsSum values rays c x = IsPrimitivePart (crossing_sum values rays c) x

-- the places at a ray kept: one more where the new row is 0 there
abbrev pub AreKeptZeros : Vector → List (List ℕ) → ℕ → ℕ → List ℕ → Type 0
AreKeptZeros values zeros last place z = ((get_or values place (pos 0) ≡ pos 0) × (z ≡ get_or zeros place [] ++ (last ∷ []))) ⊎ ((get_or values place (pos 0) ≢ pos 0) × (z ≡ get_or zeros place []))

-- the places at a sum: those common to both rays, and the new one
abbrev pub AreSumZeros : ℕ → Crossing → List ℕ → Type 0
AreSumZeros last c z = z ≡ c.zeros ++ (last ∷ [])

-- for each of xs one is added at the end, to which it is in this relation
pub record Appends {A B : Type 0} (R : A → B → Type 0) (xs : List A) (before after : List B) : Type 0 where
  pub added : List B
  pub whole : after ≡ before ++ added
  pub each : AllZip R xs added

-- the places at the rays kept, and then at the sums
pub record AreCutZeros (values : Vector) (zeros : List (List ℕ)) (last : ℕ) (kept : List ℕ) (crossings : List Crossing) (cut : List (List ℕ)) : Type 0 where
  pub at_kept : List (List ℕ)
  pub are_at_kept : AllZip (AreKeptZeros values zeros last) kept at_kept
  pub at_sums : Appends (AreSumZeros last) crossings at_kept cut

-- the rays and their places after a row with these values
pub record IsCutByValues (values : Vector) (last : ℕ) (rays : List Vector) (zeros : List (List ℕ)) (cut : List Vector) (cut_zeros : List (List ℕ)) : Type 0 where
  pub kept : List ℕ
  pub are_kept : IsListOf ◌<◌ (IsKeptAt values) kept
  pub crossings : List Crossing
  pub are_crossings : AreCrossingsBefore values zeros (length values) 0 crossings
  pub sums : Appends (IsSum values rays) crossings (vectors_at rays kept) cut
  pub places : AreCutZeros values zeros last kept crossings cut_zeros
