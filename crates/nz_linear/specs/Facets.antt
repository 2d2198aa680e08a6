-- The valid forms of a list in normal form, the extreme ones of them, and the rows whose rays they are.
use Rattle.std.specs.Prelude.{◌≡◌, ℕ, List, [], ◌∷◌, pos, negsuc, ◌≤ℤ◌}
use Rattle.std.specs.List.{AllByRecursion as Each}
use Rattle.nz_spec.specs.Vectors.{Vector, dot, scaled, entry, HasWidth}
use Rattle.nz_spec.specs.Forms.{IsOtherColumn}
use Rattle.nz_linear.specs.DoubleDescription.{IsOnRay}
use Rattle.nz_linear.specs.Echelon.{unit_at}

-- a form that is at least 0 on G, and 0 outside the key columns
pub record IsValidForm (w : ℕ) (G : List Vector) (f : Vector) : Type 0 where
  pub width : HasWidth w f
  pub at_least : Each (λ g. pos 0 ≤ℤ dot f g) G
  pub zero_at : (j : ℕ) → IsOtherColumn w G j → entry f j ≡ pos 0

-- a valid form that is 0 wherever f is 0 on G is on the ray of f
abbrev pub IsExtremeForm : ℕ → List Vector → Vector → Type 0
IsExtremeForm w G f = (y : Vector) → IsValidForm w G y → Each (λ g. dot f g ≡ pos 0 → dot y g ≡ pos 0) G → IsOnRay f y

-- G as rows, and two rows for each of the columns at which a form is to be 0
abbrev pub facet_rows : ℕ → List ℕ → List Vector → List Vector
facet_rows w [] G = G
facet_rows w (c ∷ columns) G = unit_at w c ∷ scaled (negsuc 0) (unit_at w c) ∷ facet_rows w columns G
