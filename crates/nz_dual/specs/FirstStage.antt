-- The first stage: the rows of a simplex alone, as many as the width.
use Rattle.std.specs.Prelude.{◌≡◌, ◌⊎◌, ◌++◌, ⊤, ℕ, ℤ, List, length, Contains}
use Rattle.nz_spec.specs.Vectors.{Vector, HasWidth}
use Rattle.nz_spec.specs.Boxes.{IsListedOrBoxMember, IsFloorSum}
use Rattle.nz_spec.specs.Forms.{IsNormalForm}
use Rattle.nz_spec.specs.Order.{IsLexBefore, IsListOf, MoreThan}
use Rattle.nz_spec.specs.Stages.{IsInStage}
use Rattle.nz_range.specs.Measures.{SomeLarge, SomeLargeAt}
use Rattle.nz_classes.specs.Classes.{IsPoint}
use Rattle.nz_vec.specs.declared.answers.Work.{Work}
use Rattle.nz_vec.specs.declared.answers.Work.TheVariants.{Range, TooMany, Stopped, NoMemory}

-- a ray, or a vector of the stage that is a sum of independent rays with rational factors of at least 0 and below 1
abbrev pub IsStartCandidate : ℕ → List Vector → List Vector → Vector → Type 0
IsStartCandidate w rows rays = IsListedOrBoxMember w (IsInStage (HasWidth w) rows) rays

-- such a vector, or a floor sum of the rays
abbrev pub IsStartVector : ℕ → List Vector → List Vector → Vector → Type 0
IsStartVector w rows rays v = IsStartCandidate w rows rays v ⊎ IsFloorSum w rays v

-- a row, or a normal form of the rays
abbrev pub IsStartForm : ℕ → List Vector → List Vector → Vector → Type 0
IsStartForm w rows rays f = Contains rows f ⊎ IsNormalForm w rays f

-- one of these vectors or forms, or one of the forms at one of the vectors, has a measure above the bound
abbrev pub IsStartTooLarge : ℤ → ℕ → List Vector → List Vector → Type 0
IsStartTooLarge bound w rows rays = SomeLarge bound (λ v. IsStartVector w rows rays v ⊎ IsStartForm w rows rays v) ⊎ SomeLargeAt bound (IsStartForm w rows rays) (IsStartVector w rows rays)

-- why there is no first stage: more candidates than the limit, a number too large, or no memory
abbrev pub IsStartRefusal : ℤ → ℕ → ℕ → List Vector → List Vector → Work → Type 0
IsStartRefusal bound limit w rows rays (Range told) = (told ≡ 0) × IsStartTooLarge bound w rows rays
IsStartRefusal bound limit w rows rays TooMany = MoreThan limit (IsStartCandidate w rows rays)
IsStartRefusal bound limit w rows rays (Stopped stage) = ⊥
IsStartRefusal bound limit w rows rays NoMemory = ⊤

-- the points of the half-open parallelepiped of the rays, and the rays
pub record AreCandidates (rays candidates : List Vector) : Type 0 where
  pub points : List Vector
  pub lists : IsListOf IsLexBefore (IsPoint (length rays) rays) points
  pub whole : candidates ≡ points ++ rays

-- the rays and these vectors are not more than the limit
abbrev pub IsStartWithin : ℕ → ℕ → List Vector → List Vector → Type 0
IsStartWithin limit w rows rays = ¬ MoreThan limit (IsStartCandidate w rows rays)
