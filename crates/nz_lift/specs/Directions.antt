-- The extreme rays of bounded rows, with their levels in front, and the forms of their shadows.
use Rattle.std.specs.Prelude.{◌≡◌, ℕ, ◌<◌, List, [], ◌∷◌, ◌++◌, map, take, length, get_or, pos, ◌≤ℤ◌}
use Rattle.std.specs.List.{AllByRecursion as Each}
use Rattle.nz_spec.specs.Vectors.{Vector, dot, entry, opposite}
use Rattle.nz_spec.specs.Forms.{IsDescription}
use Rattle.nz_linear.specs.Extreme.{IsPointed}
use Rattle.nz_rays.specs.Rays.{AreRaysOnce}
use Rattle.nz_vec.specs.declared.answers.Num.{Num}
use Rattle.nz_vec.specs.declared.answers.Num.TheVariants as num
use Rattle.nz_vec.specs.declared.answers.Work.{Work}
use Rattle.nz_vec.specs.declared.answers.Work.TheVariants as work
use Rattle.nz_lift.specs.declared.directions.Directions.{Directions}
use Rattle.nz_lift.specs.declared.directions.Directions.TheVariants.{Flat, Rays}
use Rattle.nz_lift.specs.Lifts.{IsUnboundedBy}

-- each vector with its level in front
abbrev pub headed : Vector → List Vector → List Vector
headed level vs = map (λ v. dot level v ∷ v) vs

-- of rows that are all 0 only at 0: the extreme rays, each once, each of level 1 or more, with their levels in front
pub record AreHeadedRays (w : ℕ) (rows : List Vector) (level : Vector) (list : List Vector) : Type 0 where
  pub rays : List Vector
  pub pointed : IsPointed w rows
  pub once : AreRaysOnce w rows rays
  pub levels : Each (λ v. pos 1 ≤ℤ dot level v) rays
  pub whole : list ≡ headed level rays

-- a vector that shows that the rows are not bounded, or else their rays
abbrev pub AreDirections : {T : Type 0} → ℕ → (rows : List Vector) → (level : Vector) → Directions T → Type 0
AreDirections w rows level (Flat v) = IsUnboundedBy w rows level v
AreDirections w rows level (Rays list) = AreHeadedRays w rows level list

-- the vector at this place begins with 0
pub record IsFlatPlace (list : List Vector) (place : ℕ) : Type 0 where
  pub within : place < length list
  pub flat : entry (get_or list place []) 0 ≡ pos 0

-- the first entries of each vector, as many as this size
abbrev pub fronts : ℕ → List Vector → List Vector
fronts size vs = map (λ v. take size v) vs

-- the support forms of the vectors, and their equations with both signs
pub record AreFormsOf (w : ℕ) (G forms : List Vector) : Type 0 where
  pub support : List Vector
  pub equations : List Vector
  pub description : IsDescription w G support equations
  pub whole : forms ≡ (support ++ equations) ++ map opposite equations

-- the refusal of a call that only reckons, where no stage was told
abbrev pub IsUntold : Num → Work → Type 0
IsUntold num.Range e = e ≡ work.Range 0
IsUntold num.NoMemory e = e ≡ work.NoMemory
