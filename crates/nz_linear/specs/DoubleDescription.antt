-- One row of the double description with the pairs that a third ray makes needless left out.
use Rattle.std.specs.Prelude.{◌≡◌, ◌⊎◌, ℕ, List, length, ℤ, pos, ◌≤ℤ◌, ◌<ℤ◌}
use Rattle.std.specs.List.{AllByRecursion as Each}
use Rattle.nz_spec.specs.Vectors.{Vector, HasWidth, dot, scaled}
use Rattle.nz_spec.specs.Sums.{IsInCone}
use Rattle.nz_linear.specs.Cones.{Satisfies, meet}
use Rattle.nz_linear.specs.Extreme.{VanishesWith}

-- neither vanishes at all the rows at which the other does
pub record HaveApartZeros (rows : List Vector) (p q : Vector) : Type 0 where
  pub there : ¬ VanishesWith rows p q
  pub back : ¬ VanishesWith rows q p

-- a third ray that vanishes where both p and n do
pub record IsThird (w : ℕ) (rows : List Vector) (p n r : Vector) : Type 0 where
  pub width : length r ≡ w
  pub inside : Satisfies rows r
  pub vanishes : Each (λ a. dot a p ≡ pos 0 → dot a n ≡ pos 0 → dot a r ≡ pos 0) rows
  pub apart_p : HaveApartZeros rows p r
  pub apart_n : HaveApartZeros rows n r

-- such a ray is there
pub record HasThird (w : ℕ) (rows : List Vector) (p n : Vector) : Type 0 where
  pub ray : Vector
  pub is : IsThird w rows p n ray

-- the rays after the row h: those on its side, and the sums of two on both sides but for those that a third ray makes needless
pub record IsPrunedCut (w : ℕ) (h : Vector) (rows rays cut : List Vector) : Type 0 where
  pub widths : Each (HasWidth w) cut
  pub sound : Each (λ r. (pos 0 ≤ℤ dot h r) × Satisfies rows r) cut
  pub keeps : Each (λ r. pos 0 ≤ℤ dot h r → IsInCone w cut r) rays
  pub pairs : Each (λ n. Each (λ p. dot h n <ℤ pos 0 → pos 0 <ℤ dot h p → IsInCone w cut (meet h p n) ⊎ HasThird w rows p n) rays) rays

-- some positive multiple of y is a multiple of x by a number of at least 0
pub record IsOnRay (x y : Vector) : Type 0 where
  pub multiple : ℤ
  pub positive : pos 0 <ℤ multiple
  pub factor : ℤ
  pub nonneg : pos 0 ≤ℤ factor
  pub same : scaled multiple y ≡ scaled factor x

-- what of the cone vanishes where x does is on the ray of x
abbrev pub IsExtremeByZeros : ℕ → List Vector → Vector → Type 0
IsExtremeByZeros w rows x = (y : Vector) → length y ≡ w → Satisfies rows y → VanishesWith rows x y → IsOnRay x y

-- no ray but p and n vanishes at all rows at which both do
abbrev pub AreAdjacent : List Vector → List Vector → Vector → Vector → Type 0
AreAdjacent rows rays p n = Each (λ r. Each (λ a. dot a p ≡ pos 0 → dot a n ≡ pos 0 → dot a r ≡ pos 0) rows → (r ≡ p) ⊎ (r ≡ n)) rays
