-- Pairs of rays on both sides of a new row, told apart by the places at which rows are 0 alone.
use Rattle.std.specs.Prelude.{◌≡◌, ◌≢◌, ◌⊎◌, ℕ, ◌<◌, List, [], length, get_or, pos, ◌<ℤ◌, Contains}
use Rattle.std.specs.List.{AllByRecursion as Each}
use Rattle.nz_spec.specs.Vectors.{Vector}
use Rattle.nz_spec.specs.Order.{Pairwise, IsListOf}
use Rattle.nz_rays.specs.declared.crossings.Crossing.{Crossing}

-- the places that are in the sets of both
abbrev pub AreCommon : List (List ℕ) → ℕ → ℕ → List ℕ → Type 0
AreCommon zeros above below common = IsListOf ◌<◌ (λ k. Contains (get_or zeros above []) k × Contains (get_or zeros below []) k) common

-- another set has all common places
pub record IsThird (zeros : List (List ℕ)) (common : List ℕ) (above below place : ℕ) : Type 0 where
  pub not_above : place ≢ above
  pub not_below : place ≢ below
  pub covers : Each (Contains (get_or zeros place [])) common

-- no other set has them
abbrev pub HasNoThird : List (List ℕ) → List ℕ → ℕ → ℕ → Type 0
HasNoThird zeros common above below = (place : ℕ) → place < length zeros → ¬ IsThird zeros common above below place

-- some other set has them
pub record HasThird (zeros : List (List ℕ)) (common : List ℕ) (above below : ℕ) : Type 0 where
  pub place : ℕ
  pub within : place < length zeros
  pub third : IsThird zeros common above below place

-- another set has all that is common to these two
pub record IsCovered (zeros : List (List ℕ)) (above below : ℕ) : Type 0 where
  pub common : List ℕ
  pub is_common : AreCommon zeros above below common
  pub other : HasThird zeros common above below

-- the new row is positive at the one ray and negative at the other
pub record AreOnBothSides (values : Vector) (above below : ℕ) : Type 0 where
  pub above_within : above < length values
  pub below_within : below < length values
  pub over : pos 0 <ℤ get_or values above (pos 0)
  pub under : get_or values below (pos 0) <ℤ pos 0

-- rays on both sides with their common places, which no other ray has all
pub record IsCrossing (values : Vector) (zeros : List (List ℕ)) (c : Crossing) : Type 0 where
  pub sides : AreOnBothSides values c.above c.below
  pub common : AreCommon zeros c.above c.below c.zeros
  pub adjacent : HasNoThird zeros c.zeros c.above c.below

-- rays on both sides with fewer common places than needed are covered
abbrev pub FewAreCovered : Vector → List (List ℕ) → ℕ → Type 0
FewAreCovered values zeros needed = (above below : ℕ) → AreOnBothSides values above below → (common : List ℕ) → AreCommon zeros above below common → length common < needed → IsCovered zeros above below

-- the pair (a, b) is before (c, d)
abbrev pub IsPairBefore : ℕ → ℕ → ℕ → ℕ → Type 0
IsPairBefore a b c d = (a < c) ⊎ ((a ≡ c) × (b < d))

abbrev pub IsBefore : Crossing → Crossing → Type 0
IsBefore c d = IsPairBefore c.above c.below d.above d.below

-- the crossing of these two is in the list
pub record HasCrossing (list : List Crossing) (above below : ℕ) : Type 0 where
  pub crossing : Crossing
  pub has : Contains list crossing
  pub same_above : crossing.above ≡ above
  pub same_below : crossing.below ≡ below

-- the crossings of the pairs before (a, b), in order: for each such pair on both sides its crossing is there, or another ray has all that is common
pub record AreCrossingsBefore (values : Vector) (zeros : List (List ℕ)) (a b : ℕ) (list : List Crossing) : Type 0 where
  pub in_order : Pairwise IsBefore list
  pub only : Each (IsCrossing values zeros) list
  pub before : Each (λ c. IsPairBefore c.above c.below a b) list
  pub each : (above below : ℕ) → IsPairBefore above below a b → AreOnBothSides values above below → HasCrossing list above below ⊎ IsCovered zeros above below
