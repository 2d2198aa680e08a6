-- The numbers that are formed while lattice points are found.
use Rattle.std.specs.Prelude.{ℕ, suc, ◌≤◌, List, [], ◌∷◌, ◌++◌, map, ℤ, pos, Contains}
use Rattle.nz_spec.specs.Vectors.{Vector}
use Rattle.nz_spec.specs.Order.{ListsOnce}
use Rattle.nz_spec.specs.Monoids.{IsExtremeRay}
use Rattle.nz_spec.specs.Forms.{IsNormalForm}
use Rattle.nz_linear.specs.Cones.{IsInRows}
use Rattle.nz_range.specs.Measures.{measure, pair_measure}
use Rattle.nz_further.specs.Shadows.{AreBounded, IsInShadow, shadow_of}

-- of vectors: the measure of a normal form, or of one of the vectors at one
pub data IsNormalNumber (w : ℕ) (G : List Vector) : ℤ → Type 0 where
  of_form : {f : Vector} → IsNormalForm w G f → IsNormalNumber w G (pos (measure f))
  of_pair : {g f : Vector} → Contains G g → IsNormalForm w G f → IsNormalNumber w G (pos (pair_measure g f))

-- Those of the rows; and where the rows are bounded, with their extreme rays, for each shadow: those of the shadows of the rays, and the measure of a normal form of these at a vector of the shadow before, with 1 in front and 0 after it.
pub data IsLiftNumber (w : ℕ) (rows : List Vector) (level : Vector) : ℤ → Type 0 where
  of_rows : {n : ℤ} → IsNormalNumber w rows n → IsLiftNumber w rows level n
  of_shadow : {rays : List Vector} {j : ℕ} {n : ℤ} → AreBounded w rows level → ListsOnce (IsExtremeRay (IsInRows w rows)) rays → j ≤ w → IsNormalNumber (suc j) (map (shadow_of level j) rays) n → IsLiftNumber w rows level n
  of_point : {rays : List Vector} {j : ℕ} {f c : Vector} → AreBounded w rows level → ListsOnce (IsExtremeRay (IsInRows w rows)) rays → suc j ≤ w
      → IsNormalForm (suc (suc j)) (map (shadow_of level (suc j)) rays) f → IsInShadow w rows level j c → IsLiftNumber w rows level (pos (pair_measure f (pos 1 ∷ c ++ pos 0 ∷ [])))
