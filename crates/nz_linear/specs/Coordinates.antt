-- Coordinates: vectors as the sums of independent ones with whole factors.
use Rattle.std.specs.Prelude.{◌≡◌, ℕ, List, length, map}
use Rattle.std.specs.List.{AllByRecursion as Each}
use Rattle.nz_spec.specs.Vectors.{Vector, dot, combination, HasWidth}
use Rattle.nz_spec.specs.Sums.{IsIndependent}

-- the vectors of a set are the sums of the base with the factors of another set
pub record AreCoordinates (w : ℕ) (base : List Vector) (Member Coordinates : Vector → Type 0) : Type 0 where
  pub widths : Each (HasWidth w) base
  pub independent : IsIndependent w base
  pub one_each : (c : Vector) → Coordinates c → length c ≡ length base
  pub forth : (c : Vector) → Coordinates c → Member (combination w c base)
  pub back : (x : Vector) → Member x → (c : Vector) × Coordinates c × (combination w c base ≡ x)

-- the values of a form at the base: the form in coordinates
abbrev pub in_coordinates : List Vector → Vector → Vector
in_coordinates base f = map (λ v. dot f v) base
