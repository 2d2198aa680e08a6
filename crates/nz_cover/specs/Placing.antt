-- What placing answers, and why it refuses.
use Rattle.std.specs.Prelude.{◌⊎◌, ℕ, ℤ, List, Contains, false}
use Rattle.std.specs.List.{AllByRecursion as Each, AllZip}
use Rattle.nz_spec.specs.Vectors.{Vector, HasWidth}
use Rattle.nz_spec.specs.Sums.{IsInCone, HasRank}
use Rattle.nz_spec.specs.Forms.{AreDualForms}
use Rattle.nz_spec.specs.Covers.{vectors_at, IsGoodCover}
use Rattle.nz_spec.specs.Stages.{ArePlacings}
use Rattle.nz_vec.specs.declared.answers.Work.{Work}
use Rattle.nz_vec.specs.declared.answers.Work.TheVariants.{Range, TooMany, Stopped, NoMemory}
use Rattle.nz_range.specs.Measures.{SomeLarge}
use Rattle.nz_pointed.specs.Pointed.{IsTooLarge}
use Rattle.nz_watch.specs.Telling.{Watched, HasPassed, HasStopped, HasLeft}

-- vectors of one width, of which as many are independent
pub record ArePlaceable (w : ℕ) (rays : List Vector) : Type 0 where
  pub widths : Each (HasWidth w) rays
  pub full : HasRank w (Contains rays) w

-- a whole vector of the cone of the rays
abbrev pub IsInConeOf : ℕ → List Vector → Vector → Type 0
IsInConeOf w rays x = HasWidth w x × IsInCone w rays x

-- a good cover of the cone of the rays, and the dual forms of each simplex
pub record IsPlaced (w : ℕ) (rays : List Vector) (simplices : List (List ℕ)) (forms : List (List Vector)) : Type 0 where
  pub cover : IsGoodCover w (IsInConeOf w rays) rays simplices
  pub dual : AllZip (λ places fs. AreDualForms w (vectors_at rays places) fs) simplices forms

-- a ray, a normal form of the rays, or a ray at such a form has a measure above the bound
abbrev pub IsTooLargeToPlace : ℤ → ℕ → List Vector → Type 0
IsTooLargeToPlace bound w rays = SomeLarge bound (Contains rays) ⊎ IsTooLarge bound w rays

-- why there is no cover: something is too large, or the watch said stop; its number goes by the stages. Where memory is out, the watch was told some first stages.
abbrev pub IsPlaceRefusal : ℤ → ℕ → List Vector → ℕ → Watched → Watched → Work → Type 0
IsPlaceRefusal bound w rays told before now (Range number) = HasLeft (ArePlacings w rays) told number before now × IsTooLargeToPlace bound w rays
IsPlaceRefusal bound w rays told before now TooMany = ⊥
IsPlaceRefusal bound w rays told before now (Stopped stage) = HasStopped (ArePlacings w rays) told stage before now
IsPlaceRefusal bound w rays told before now NoMemory = (passed : ℕ) × HasPassed (ArePlacings w rays) told passed before now false
