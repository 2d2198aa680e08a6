-- Cones by rows and cones by generators.
use Rattle.std.specs.Prelude.{ℕ, List, pos, neg_ℤ, ◌≤ℤ◌, ◌<ℤ◌}
use Rattle.std.specs.List.{AllByRecursion as Each}
use Rattle.nz_spec.specs.Vectors.{Vector, HasWidth, dot, plus, scaled}
use Rattle.nz_spec.specs.Sums.{IsInCone}

-- each row has a value of at least 0 at x
abbrev pub Satisfies : List Vector → Vector → Type 0
Satisfies rows x = Each (λ a. pos 0 ≤ℤ dot a x) rows

-- the whole vectors of the cone of the rows
abbrev pub IsInRows : ℕ → List Vector → Vector → Type 0
IsInRows w rows x = HasWidth w x × Satisfies rows x

-- the rays satisfy the rows, and a form that is at least 0 at each ray is a sum of rows
pub record IsDoubleDescription (w : ℕ) (rows rays : List Vector) : Type 0 where
  pub row_widths : Each (HasWidth w) rows
  pub ray_widths : Each (HasWidth w) rays
  pub sound : Each (Satisfies rows) rays
  pub farkas : (y : Vector) → HasWidth w y → Satisfies rays y → IsInCone w rows y

-- the sum of multiples of n and p at which h is 0
abbrev pub meet : Vector → Vector → Vector → Vector
meet h p n = plus (scaled (dot h p) n) (scaled (neg_ℤ (dot h n)) p)

-- what a list of rays has after the row h: a form that is at least 0 on the list is so at the rays on h's side, and at each sum of two rays on both sides
pub record IsCut (w : ℕ) (h : Vector) (rows rays cut : List Vector) : Type 0 where
  pub widths : Each (HasWidth w) cut
  pub sound : Each (λ r. (pos 0 ≤ℤ dot h r) × Satisfies rows r) cut
  pub keeps : (y : Vector) → HasWidth w y → Satisfies cut y → Each (λ r. pos 0 ≤ℤ dot h r → pos 0 ≤ℤ dot r y) rays
  pub pairs : (y : Vector) → HasWidth w y → Satisfies cut y → Each (λ n. Each (λ p. dot h n <ℤ pos 0 → pos 0 <ℤ dot h p → pos 0 ≤ℤ dot (meet h p n) y) rays) rays
