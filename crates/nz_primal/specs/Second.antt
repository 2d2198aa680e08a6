-- Second coordinates: those in a base of the vectors at which the rows are 0 that are 0 at all rays.
use Rattle.std.specs.Prelude.{◌≡◌, ◌↔◌, ℕ, List, length, map, pos, Contains}
use Rattle.std.specs.List.{AllByRecursion as Each}
use Rattle.nz_spec.specs.Vectors.{Vector, dot, combination, HasWidth}
use Rattle.nz_spec.specs.Sums.{IsInGroup, IsIndependent}

-- the row is 0 at each of these vectors
abbrev pub VanishesOn : List Vector → Vector → Type 0
VanishesOn rays row = Each (λ v. dot row v ≡ pos 0) rays

-- x is 0 at those rows that are 0 at all rays
abbrev pub IsInFace : ℕ → (rows rays : List Vector) → Vector → Type 0
IsInFace w rows rays x = HasWidth w x × ((row : Vector) → Contains rows row → VanishesOn rays row → dot row x ≡ pos 0)

-- independent vectors that generate the vectors where those rows are 0
pub record IsFaceBase (w : ℕ) (rows rays base : List Vector) : Type 0 where
  pub widths : Each (HasWidth w) base
  pub independent : IsIndependent w base
  pub same : (x : Vector) → IsInFace w rows rays x ↔ IsInGroup w base x

-- the vectors have these coordinates in the base
pub record HaveCoordinates (w : ℕ) (base coordinates vectors : List Vector) : Type 0 where
  pub widths : Each (HasWidth (length base)) coordinates
  pub same : map (λ c. combination w c base) coordinates ≡ vectors
