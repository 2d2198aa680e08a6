-- What the parts of the primal run answer.
use Rattle.std.specs.Prelude.{◌≡◌, ◌↔◌, ◌⊎◌, ℕ, zero, suc, ◌+◌, ◌-◌, ◌<◌, max, ℤ, List, [], ◌++◌, length, map, get_or, unsigned_abs, pos, Contains}
use Rattle.std.specs.List.{AllByRecursion as Each, AllZip}
use Rattle.nz_spec.specs.Vectors.{Vector, dot, values_at, combination, HasWidth, IsZero}
use Rattle.nz_spec.specs.Sums.{IsInCone, HasRank}
use Rattle.nz_linear.specs.Cones.{IsInRows}
use Rattle.nz_spec.specs.Order.{MoreThan}
use Rattle.nz_spec.specs.Covers.{vectors_at}
use Rattle.nz_linear.specs.Coordinates.{in_coordinates}
use Rattle.nz_classes.specs.Classes.{IsPoint}
use Rattle.nz_classes.specs.Walks.{IsFullSimplex}
use Rattle.nz_sweep.specs.Bases.{Base}
use Rattle.nz_sweep.specs.Cuts.{IsCut}
use Rattle.nz_vec.specs.declared.answers.Num.{Num}
use Rattle.nz_vec.specs.declared.answers.Num.TheVariants as num
use Rattle.nz_vec.specs.declared.answers.Work.{Work}
use Rattle.nz_vec.specs.declared.answers.Work.TheVariants.{Range, TooMany, Stopped, NoMemory}
use Rattle.nz_rays.specs.Rays.{AreRaysOnce}
use Rattle.nz_pointed.specs.Pointed.{IsTooLarge}
use Rattle.nz_primal.specs.Lists.{AreGenerators}
use Rattle.nz_primal.specs.Second.{VanishesOn, IsFaceBase, HaveCoordinates}
use Rattle.nz_vec.specs.Sums.{SumsFit, HasValueOutside}
use Rattle.nz_sweep.specs.Lists.{LacksPull, LacksVector}
use Rattle.nz_classes.specs.Walks as walks
use Rattle.nz_sweep.specs.Numbers.{SomeNumberLarge, IsEquationNumber, IsCoordinateNumber}
use Rattle.nz_sweep.specs.Rounds.{IsEquationMove}
use Rattle.nz_measures.specs.Sweeps.{Sweeps, IsMidway, whole_base}

-- a base for second coordinates, the rays in them, and the rows in them
pub record IsSecond (w : ℕ) (rows rays : List Vector) (base : Base) (coordinates second_rows : List Vector) : Type 0 where
  pub width : base.width ≡ w
  pub is_base : IsFaceBase w rows rays base.vectors
  pub have : HaveCoordinates w base.vectors coordinates rays
  pub rows_there : second_rows ≡ map (λ r. in_coordinates base.vectors r) rows

-- the base after one row: cut by it if it is 0 at all rays, and else the same
pub record IsCutAt (row : Vector) (rays : List Vector) (before after : Base) : Type 0 where
  pub width : after.width ≡ before.width
  pub zero : VanishesOn rays row → IsCut (λ x. dot row x ≡ pos 0) before.width before.vectors after.vectors
  pub other : ¬ VanishesOn rays row → after ≡ before

-- the values of the forms at the vector, and then its entries
abbrev pub keyed : List Vector → Vector → Vector
keyed order x = values_at order x ++ x

-- the simplices have as many rays as these have entries, and their forms
abbrev pub AreFullSimplices : List Vector → List (List ℕ) → List (List Vector) → Type 0
AreFullSimplices rays simplices forms = AllZip (λ places fs. Each (λ p. p < length rays) places × IsFullSimplex (vectors_at rays places) fs) simplices forms

-- a point of one of the simplices
abbrev pub IsPointOf : List Vector → List (List ℕ) → Vector → Type 0
IsPointOf rays simplices x = (places : List ℕ) × Contains simplices places × IsPoint (length places) (vectors_at rays places) x

-- the list has just the rays and the points of the simplices
pub record AreCandidates (rays : List Vector) (simplices : List (List ℕ)) (list : List Vector) : Type 0 where
  pub only : Each (λ x. Contains rays x ⊎ IsPointOf rays simplices x) list
  pub rays_in : Each (Contains list) rays
  pub points_in : (x : Vector) → IsPointOf rays simplices x → Contains list x

-- the list has just the points of the simplex at these places
pub record ArePointsOf (rays : List Vector) (places : List ℕ) (list : List Vector) : Type 0 where
  pub only : Each (IsPoint (length places) (vectors_at rays places)) list
  pub each : (x : Vector) → IsPoint (length places) (vectors_at rays places) x → Contains list x

-- more vectors than the limit are rays, or points of the simplices
abbrev pub IsCrowded : ℕ → List Vector → List (List ℕ) → Type 0
IsCrowded limit rays simplices = MoreThan limit (λ x. Contains rays x ⊎ IsPointOf rays simplices x)

-- too many only where more than the limit are rays or points; the walks tell no stages
abbrev pub IsWalkRefusal : ℕ → List Vector → List (List ℕ) → Work → Type 0
IsWalkRefusal limit rays simplices (Range told) = Unit {0}
IsWalkRefusal limit rays simplices TooMany = IsCrowded limit rays simplices
IsWalkRefusal limit rays simplices (Stopped stage) = ⊥
IsWalkRefusal limit rays simplices NoMemory = Unit {0}

-- the same of one walk
abbrev pub IsOneWalkRefusal : ℕ → List Vector → List ℕ → Work → Type 0
IsOneWalkRefusal limit rays places (Range told) = Unit {0}
IsOneWalkRefusal limit rays places TooMany = MoreThan limit (IsPoint (length places) (vectors_at rays places))
IsOneWalkRefusal limit rays places (Stopped stage) = ⊥
IsOneWalkRefusal limit rays places NoMemory = Unit {0}

-- the rows are all 0 only at 0, the vectors at which all are at least 0 are the cone of the rays, and these have the width as their rank
pub record IsSecondCone (w : ℕ) (rows rays : List Vector) : Type 0 where
  pub rows_wide : Each (HasWidth w) rows
  pub rays_wide : Each (HasWidth w) rays
  pub pointed : (x : Vector) → HasWidth w x → Each (λ r. dot r x ≡ pos 0) rows → IsZero x
  pub cone : (x : Vector) → HasWidth w x → IsInCone w rays x ↔ IsInRows w rows x
  pub full : HasRank w (Contains rays) w

-- a vector with coordinates that have P
abbrev pub IsVectorOf : Base → (Vector → Type 0) → Vector → Type 0
IsVectorOf base P x = (c : Vector) × P c × (combination base.width c base.vectors ≡ x)

-- the extreme generators in their order, and their second coordinates
pub record IsSettled (w : ℕ) (rows order extreme : List Vector) (base : Base) (coordinates second_rows : List Vector) : Type 0 where
  pub generators : AreGenerators w rows order extreme
  pub once : AreRaysOnce w rows extreme
  pub in_second : IsSecond w rows extreme base coordinates second_rows

-- how many stages the placing of so many vectors of this rank has
abbrev pub stage_count : ℕ → ℕ → ℕ
stage_count rank zero = 0
stage_count rank (suc n) = suc n + 1 - rank

-- before the first stage the number is that of the stages told before
abbrev pub IsFirstRefusal : Num → ℕ → Work → Type 0
IsFirstRefusal num.Range told result = result ≡ Range told
IsFirstRefusal num.NoMemory told result = result ≡ NoMemory

-- after the last stage the number goes by all stages
abbrev pub IsLastRefusal : Work → ℕ → ℕ → Work → Type 0
IsLastRefusal (Range number) told passed result = result ≡ Range (max told passed)
IsLastRefusal TooMany told passed result = result ≡ TooMany
IsLastRefusal (Stopped stage) told passed result = result ≡ Stopped stage
IsLastRefusal NoMemory told passed result = result ≡ NoMemory

-- the row has, at one of these vectors, a product or a sum of the first products that is no value
pub record LacksValue (fits : ℤ → Type 0) (row : Vector) (vs : List Vector) : Type 0 where
  pub vector : Vector
  pub has : Contains vs vector
  pub outside : ¬ SumsFit fits (pos 0) row vector

-- the base is cut by the row where that is 0 at all rays, and else stays
abbrev pub MoveOn : List Vector → Vector → Base → Base → Type 0
MoveOn rays row before after = (VanishesOn rays row × IsEquationMove row before after) ⊎ ((¬ VanishesOn rays row) × (after ≡ before))

-- the row has no value at a ray, or the cut of the base by it forms a number above the bound
abbrev pub IsCutCause : ℤ → (ℤ → Type 0) → Vector → List Vector → Base → Type 0
IsCutCause h fits row rays before = LacksValue fits row rays ⊎ (VanishesOn rays row × SomeNumberLarge h (IsEquationNumber row before))

-- so it is of one of the rows, after the cuts by those before it
pub record IsFaceCause (h : ℤ) (fits : ℤ → Type 0) (w : ℕ) (rows rays : List Vector) : Type 0 where
  pub row : Vector
  pub moment : Base
  pub midway : IsMidway (MoveOn rays) rows (whole_base w) row moment
  pub cause : IsCutCause h fits row rays moment

-- the coordinates of one of the vectors form a number above the bound
pub record LacksCoordinates (h : ℤ) (b : Base) (vs : List Vector) : Type 0 where
  pub vector : Vector
  pub has : Contains vs vector
  pub large : SomeNumberLarge h (IsCoordinateNumber b vector)

-- why there are no second coordinates: the base of the face, the coordinates of a ray in it, or a row in it
pub data IsSecondCause (h : ℤ) (fits : ℤ → Type 0) (w : ℕ) (rows rays : List Vector) : Type 0 where
  of_face : IsFaceCause h fits w rows rays → IsSecondCause h fits w rows rays
  of_coordinates : {b : Base} → Sweeps (MoveOn rays) rows (whole_base w) b → LacksCoordinates h b rays → IsSecondCause h fits w rows rays
  of_pull : {b : Base} → Sweeps (MoveOn rays) rows (whole_base w) b → LacksPull fits b rows → IsSecondCause h fits w rows rays

-- why there are no extreme generators: a number of the rows is too large, or a form of the order has no value at an extreme ray
pub data IsGeneratorCause (h : ℤ) (fits : ℤ → Type 0) (w : ℕ) (rows order : List Vector) : Type 0 where
  of_rows : IsTooLarge h w rows → IsGeneratorCause h fits w rows order
  of_order : {rays : List Vector} → AreRaysOnce w rows rays → HasValueOutside fits order rays → IsGeneratorCause h fits w rows order

-- why nothing is settled: there are no extreme generators, or no second coordinates of them
pub data IsSettleCause (h : ℤ) (fits : ℤ → Type 0) (w : ℕ) (rows order : List Vector) : Type 0 where
  of_generators : IsGeneratorCause h fits w rows order → IsSettleCause h fits w rows order
  of_second : {extreme : List Vector} → AreGenerators w rows order extreme → AreRaysOnce w rows extreme → IsSecondCause h fits w rows extreme → IsSettleCause h fits w rows order

-- where the refusal is Range
abbrev pub WhereRange : Type 0 → Work → Type 0
WhereRange P (Range told) = P
WhereRange P TooMany = Unit {0}
WhereRange P (Stopped stage) = Unit {0}
WhereRange P NoMemory = Unit {0}

-- a number of the walk of one of the simplices is above the bound
pub record SomeWalkLarge (bound : ℕ) (rays : List Vector) (simplices : List (List ℕ)) (forms : List (List Vector)) : Type 0 where
  pub place : ℕ
  pub within : place < length simplices
  pub large : walks.IsTooLarge bound (vectors_at rays (get_or simplices place [])) (get_or forms place [])

-- why there are no elements: a walk, a row at a candidate, or a candidate that cannot be brought back
pub data IsElementCause (h : ℤ) (fits : ℤ → Type 0) (b : Base) (rays rows : List Vector) (simplices : List (List ℕ)) (forms : List (List Vector)) : Type 0 where
  of_walk : SomeWalkLarge (unsigned_abs h) rays simplices forms → IsElementCause h fits b rays rows simplices forms
  of_values : {list : List Vector} → AreCandidates rays simplices list → HasValueOutside fits rows list → IsElementCause h fits b rays rows simplices forms
  of_back : {list kept : List Vector} → AreCandidates rays simplices list → Each (Contains list) kept → LacksVector fits b kept → IsElementCause h fits b rays rows simplices forms
